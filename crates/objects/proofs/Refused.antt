-- Refusals that pass from one reader to another: by a `?`, and with the place of a word that is judged.
use Rattle.std.proofs.Common.{◌≡◌, ℕ, zero, suc, ◌≤◌, ◌∙◌, sym, refl, ap, arith, ◌+◌, ◌-◌, List, take, drop, Result, Ok, Err}
use Rattle.std.specs.Prelude.{IsErr, IsErrAnd, MatchResult, slice_range}
use Rattle.std.proofs.lemmas.Result.{err_from_is_err_and}
use Rattle.language.specs.declared.refusals.Refusal.{Refusal}
use Rattle.language.specs.declared.refusals.RefusedText.{RefusedText}
use Rattle.language.specs.Refusals.{number_of, refusal, refused_at}
use Rattle.language.specs.Reading.{Got, no, word_at}
use Rattle.theorems.proofs.Texts.{drop-take}
use Rattle.lexer.specs.Readings.{WordSized}

-- what the exit of a `?` returns
pub handed_on : {A : Type 0} {r : Result A RefusedText} {e : RefusedText} → IsErr r × IsErrAnd r (λ y. y ≡ e) → r ≡ Err e
handed_on {r = r} h = let p = err_from_is_err_and r h.1 in p.1 ∙ ap (λ (t : RefusedText). Err t) p.2

-- what is judged of a word at p
abbrev pub placed : {A : Type 0} → ℕ → Result A Refusal → Result A RefusedText
placed p (Ok x) = Ok x
placed p (Err f) = Err (record { refusal = f; place = p })

-- `map_err` with a closure that adds the place
pub told : {A : Type 0} (j : Result A Refusal) (r : Result A RefusedText) (p : ℕ) {Q : Refusal → RefusedText → Type 0}
    → MatchResult j (λ x. r ≡ Ok x) (λ f. IsErrAnd r (Q f)) → ((f : Refusal) (t : RefusedText) → Q f t → t ≡ record { refusal = f; place = p }) → r ≡ placed p j
told (Ok x) r p h g = h
told (Err f) r p h g = let q = err_from_is_err_and r h in q.1 ∙ ap (λ (t : RefusedText). Err t) (g f q.0 q.2)

-- the word at p, lent as a slice
pub word_lent : {s : List ℕ} {p n : ℕ} → WordSized s p n → slice_range s p (p + n) ≡ word_at s p
word_lent {s} {p} {n} z =
    let e : p + n - p ≡ n = omega arith in
    ap (λ (k : ℕ). take k (drop p s)) e ∙ sym (drop-take p n s) ∙ ap (λ (k : ℕ). drop p (take (p + k) s)) z.is

-- the definition refuses, with the number and the place of e
pub record Refuses {A : Type 0} (e : RefusedText) (g : Got A) : Type 0 where
  pub number : ℕ
  pub place : ℕ
  pub is : g ≡ no number place
  pub told : e ≡ refused_at number place

pub refuses_as : {A B : Type 0} {e : RefusedText} {g : Got A} {r : Result B RefusedText} → (y : Refuses e g) → r ≡ Err e → r ≡ Err (refused_at y.number y.place)
refuses_as y h = h ∙ ap (λ (t : RefusedText). Err t) y.told

pub error_of : {A : Type 0} {e f : RefusedText} → ◌≡◌ {A = Result A RefusedText} (Err e) (Err f) → e ≡ f
error_of h = cc

-- the definitions refuse with no number but 6 to 11, and each stands for its refusal
pub numbered : (n : ℕ) → 6 ≤ n → n ≤ 11 → n ≡ number_of (refusal n)
numbered zero l h = absurd (omega arith)
numbered (suc zero) l h = absurd (omega arith)
numbered (suc (suc zero)) l h = absurd (omega arith)
numbered (suc (suc (suc zero))) l h = absurd (omega arith)
numbered (suc (suc (suc (suc zero)))) l h = absurd (omega arith)
numbered (suc (suc (suc (suc (suc zero))))) l h = absurd (omega arith)
numbered (suc (suc (suc (suc (suc (suc zero)))))) l h = refl
numbered (suc (suc (suc (suc (suc (suc (suc zero))))))) l h = refl
numbered (suc (suc (suc (suc (suc (suc (suc (suc zero)))))))) l h = refl
numbered (suc (suc (suc (suc (suc (suc (suc (suc (suc zero))))))))) l h = refl
numbered (suc (suc (suc (suc (suc (suc (suc (suc (suc (suc zero)))))))))) l h = refl
numbered (suc (suc (suc (suc (suc (suc (suc (suc (suc (suc (suc zero))))))))))) l h = refl
numbered (suc (suc (suc (suc (suc (suc (suc (suc (suc (suc (suc (suc n)))))))))))) l h = absurd (omega arith)

-- the number and the place that e says, where the definition refuses with 6 to 11
pub number_told : {e : RefusedText} {n p : ℕ} → e ≡ refused_at n p → 6 ≤ n → n ≤ 11 → (n ≡ number_of e.refusal) × (p ≡ e.place)
number_told {e} {n} {p} h l u = (numbered n l u ∙ ap (λ (t : RefusedText). number_of t.refusal) (sym h), ap (λ (t : RefusedText). t.place) (sym h))
