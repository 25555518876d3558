-- `main` of a program that stands in the tables, linked and applied.
use Prim.Native.Nat.{ℕ, ◌+◌}
use mathlib.Core.Path.{◌≡◌, sym, subst, ◌∙◌}
use mathlib.Core.List.{List, [], ◌∷◌, ◌++◌}
use native.Mathlib.Omega.{arith}
use lib.ListN.{length, drop}
use Rattle.language.specs.Bytes.{bytes}
use Rattle.language.specs.Forms.{Prog}
use Rattle.language.specs.Accepted.{IsName, AreForms, AreDefinitions}
use Rattle.language.specs.Evaluation.{lookup}
use Rattle.packing.specs.Packing.{letter_of, packed}
use Rattle.language.specs.Reading.{Placed, program_of}
use Rattle.language.specs.declared.Meter.{Meter}
use Rattle.language.specs.declared.Val.{Val}
use Rattle.tables.specs.Tables.{put}
use Rattle.cells.specs.Cells.{free}
use Rattle.formtable.specs.Encoding.{encode_definitions}
use Rattle.formtable.specs.Standing.{bodies}
use Rattle.primitives.specs.Ends.{Ended}
use Rattle.linker.specs.Linked.{DefAt}
use Rattle.linker.specs.Roots.{root_from, root_in}
use Rattle.linker.specs.Linking.{AllLinked}
use Rattle.evaluator.specs.Applying.{Ran}
use Rattle.program_runner.specs.Mains.{Loaded, MainApplied}
use Rattle.program_runner.proofs.Roots.{roots}

-- the word `main` as the code has it
pub main_packed : (D : List ℕ) (many r : ℕ) → r ≡ root_from D many 721513 0 0 → r ≡ root_in D many (bytes "main")
unfolding packed letter_of
main_packed D many r e = e

put_first : (t vs : List ℕ) → put t 0 vs ≡ vs ++ drop (length vs) t
unfolding put
put_first t vs = let z : 0 + length vs ≡ length vs = omega arith in rw z

bodies_formed : (P : Prog) → AreDefinitions P → AreForms (bodies P)
bodies_formed [] h = tt
bodies_formed (d ∷ P) h = (h.1, bodies_formed P h.2)

-- every name's definition stands linked where its root says
defined : {T U D C : List ℕ} {total many : ℕ} {m : Meter} (placed : List Placed) → AllLinked T total D many U → Loaded placed T total D many C m → (w : List ℕ) → IsName w → DefAt U C (free C m) (root_in D many) (root_in D many w) (lookup w (program_of placed))
defined {U = U} {D} {C} {total} {many} {m} placed linked loaded w i =
    let n = free C m in
    let P = program_of placed in
    let kids = linked.means C n (bodies P) loaded.few_forms loaded.in_table (bodies_formed P loaded.formed) loaded.forms in
    let at = loaded.names ∙ put_first loaded.blank (encode_definitions 0 placed) in
    let found = roots U C n (root_in D many) D w i 0 0 total placed (drop (length (encode_definitions 0 placed)) loaded.blank) loaded.formed at kids in
    subst (λ (k : ℕ). DefAt U C n (root_in D many) (root_in D k w) (lookup w P)) (sym loaded.count) found

pub main_applied : {T U D C C' : List ℕ} {total many root : ℕ} {v : Val} {m : Meter} {r : Ended} → AllLinked T total D many U → root ≡ root_in D many (bytes "main") → Ran U C root v m r C' → MainApplied T total D many C v m r C'
main_applied {D = D} {many = many} linked e ran = record { means = λ placed x loaded room rep. ran.means (program_of placed) (root_in D many) x (defined placed linked loaded) e room rep }
