-- Definitions from a place on, read with enough calls, which never decide (theorems' Calls).
use Rattle.std.specs.Prelude.{ℕ, List}
use Prim.Native.Char.{code}
use Rattle.language.specs.Forms.{Form}
use Rattle.language.specs.Judging.{judge_name}
use Rattle.language.specs.Numbers.{mark_limit}
use Rattle.language.specs.Reading.{Got, got, and_then, word_at, as_judged, mark, calls, Placed, read_definitions}
use Rattle.forms.specs.Readers.{form_at}

-- behind a name: the `=`, the form and the `;`
unfoldable pub body_at : List ℕ → ℕ → Got Form
body_at s at = mark (code "=") s at (λ a. and_then (form_at s a mark_limit) (λ f e. mark (code ";") s e (λ a. got f a)))

abbrev pub placed : ℕ → List ℕ → Form → Placed
placed p w f = record { place = p; def = record { called = w; body = f } }

-- the definition whose name is at p
unfoldable pub placed_at : List ℕ → ℕ → Got Placed
placed_at s p = and_then (as_judged s p (judge_name (word_at s p))) (λ w e. and_then (body_at s e) (λ f e. got (placed p w f) e))

unfoldable pub definitions_at : List ℕ → ℕ → Got (List Placed)
definitions_at s at = read_definitions (calls s) s at
