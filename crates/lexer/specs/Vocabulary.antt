-- The primitive words by their place in the table.
use Rattle.std.specs.Prelude.{ℕ, suc, ◌≤◌, ◌≡◌, List, [], ◌∷◌, map, get_or}
use Rattle.std.specs.Prelude as S
use Rattle.std.proofs.Math.Option.{Option, some, none}
use Rattle.language.specs.Words.{Op, Op-discrete, CellRule, no_cell, one_cell, n_less_1, n_cells, n_and_1, three_n, m_and_m_times_n, entry, ops}
use Rattle.language.specs.Words as W
use Rattle.lexer.specs.declared.vocabulary.Primitive.{Primitive}
use Rattle.lexer.specs.declared.vocabulary.Primitive.TheVariants as P
use Rattle.lexer.specs.declared.vocabulary.NoPrimitive.{NoPrimitive}
use Rattle.lexer.specs.declared.vocabulary.Row.{Row}
use Rattle.lexer.specs.declared.vocabulary.CellRule as C
use Rattle.lexer.specs.declared.vocabulary.CellRule.TheVariants as R

-- how many words stand before this one
abbrev pub place_in : List Op → Op → ℕ
place_in [] o = 0
place_in (p ∷ ps) o = elim (Op-discrete p o) [ yes e ↦ 0 | no n ↦ suc (place_in ps o) ]

unfoldable pub op_code : Op → ℕ
op_code o = place_in ops o

abbrev pub rule_code : CellRule → ℕ
rule_code no_cell = 0
rule_code one_cell = 1
rule_code n_less_1 = 2
rule_code n_cells = 3
rule_code n_and_1 = 4
rule_code three_n = 5
rule_code m_and_m_times_n = 6

-- how the word with a code is spelled, and its rule's code: nothing and 0 past the table
unfoldable pub spelled_at : ℕ → List ℕ
spelled_at code = get_or (map (λ (o : Op). (entry o).spelled) ops) code []

unfoldable pub rule_at : ℕ → ℕ
rule_at code = get_or (map (λ (o : Op). rule_code (entry o).rule) ops) code 0

-- the words and rules as code names them
abbrev pub op_of : Primitive → Op
op_of P.Id = W.id
op_of P.Tl = W.tl
op_of P.Atom = W.atom
op_of P.Null = W.null
op_of P.Eq = W.eq
op_of P.Lt = W.lt
op_of P.Length = W.length
op_of P.Add = W.add
op_of P.Sub = W.sub
op_of P.Mul = W.mul
op_of P.Div = W.div
op_of P.And = W.and
op_of P.Or = W.or
op_of P.Not = W.not
op_of P.Apndl = W.apndl
op_of P.Tlr = W.tlr
op_of P.Reverse = W.reverse
op_of P.Rotl = W.rotl
op_of P.Rotr = W.rotr
op_of P.Apndr = W.apndr
op_of P.Distl = W.distl
op_of P.Distr = W.distr
op_of P.Trans = W.trans

abbrev pub primitive_of : Op → Primitive
primitive_of W.id = P.Id
primitive_of W.tl = P.Tl
primitive_of W.atom = P.Atom
primitive_of W.null = P.Null
primitive_of W.eq = P.Eq
primitive_of W.lt = P.Lt
primitive_of W.length = P.Length
primitive_of W.add = P.Add
primitive_of W.sub = P.Sub
primitive_of W.mul = P.Mul
primitive_of W.div = P.Div
primitive_of W.and = P.And
primitive_of W.or = P.Or
primitive_of W.not = P.Not
primitive_of W.apndl = P.Apndl
primitive_of W.tlr = P.Tlr
primitive_of W.reverse = P.Reverse
primitive_of W.rotl = P.Rotl
primitive_of W.rotr = P.Rotr
primitive_of W.apndr = P.Apndr
primitive_of W.distl = P.Distl
primitive_of W.distr = P.Distr
primitive_of W.trans = P.Trans

abbrev pub rule_of : CellRule → C.CellRule
rule_of no_cell = R.NoCell
rule_of one_cell = R.One
rule_of n_less_1 = R.OneLess
rule_of n_cells = R.AsMany
rule_of n_and_1 = R.OneMore
rule_of three_n = R.ThreeEach
rule_of m_and_m_times_n = R.Rows

abbrev pub rule_number : C.CellRule → ℕ
rule_number R.NoCell = 0
rule_number R.One = 1
rule_number R.OneLess = 2
rule_number R.AsMany = 3
rule_number R.OneMore = 4
rule_number R.ThreeEach = 5
rule_number R.Rows = 6

-- what a row of the table says: a word, its letters and its cell rule
pub record WordRow : Type 0 where
  pub word : Primitive
  pub letters : List ℕ
  pub rule : C.CellRule

abbrev pub row_says : Row → WordRow
row_says r = record { word = r.word; letters = r.letters.now; rule = r.rule }

-- and what the table is to say, in the order of the words
abbrev pub row_of : Op → WordRow
row_of o = record { word = primitive_of o; letters = (entry o).spelled; rule = rule_of (entry o).rule }

abbrev pub all_rows : List WordRow
all_rows = map row_of ops

-- what is found, as code says it
abbrev pub found : Option Op → S.Option Primitive
found (some o) = S.Some (primitive_of o)
found none = S.None

-- The word with a code; or the code is past the table.
abbrev pub HasCode : ℕ → S.Result Primitive NoPrimitive → Type 0
HasCode code r = S.MatchResult r (λ p. op_code (op_of p) ≡ code) (λ e. (e.0 ≡ code) × (23 ≤ code))
