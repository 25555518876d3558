-- The table of primitive words with their cells.
use Rattle.std.specs.Prelude.{ℕ, ◌+◌, ◌*◌, ◌-◌, List, [], ◌∷◌}
use Rattle.language.specs.Bytes.{bytes}

pub data Op : Type 0 where
  id tl atom null eq lt length add sub mul div and or not apndl tlr reverse rotl rotr apndr distl distr trans : Op
  deriving Discrete as Op-discrete

-- How many cells a word asks for: by n, a length, and for the last rule by n rows of m.
pub data CellRule : Type 0 where
  no_cell one_cell n_less_1 n_cells n_and_1 three_n m_and_m_times_n : CellRule

abbrev pub cells_by : CellRule → (n m : ℕ) → ℕ
cells_by no_cell n m = 0
cells_by one_cell n m = 1
cells_by n_less_1 n m = n - 1
cells_by n_cells n m = n
cells_by n_and_1 n m = n + 1
cells_by three_n n m = 3 * n
cells_by m_and_m_times_n n m = m + m * n

-- how a word is spelled, and its rule
pub record Entry : Type 0 where
  pub spelled : List ℕ
  pub rule : CellRule

abbrev pub entry : Op → Entry
entry id = record { spelled = bytes "id"; rule = no_cell }
entry tl = record { spelled = bytes "tl"; rule = no_cell }
entry atom = record { spelled = bytes "atom"; rule = no_cell }
entry null = record { spelled = bytes "null"; rule = no_cell }
entry eq = record { spelled = bytes "eq"; rule = no_cell }
entry lt = record { spelled = bytes "lt"; rule = no_cell }
entry length = record { spelled = bytes "length"; rule = no_cell }
entry add = record { spelled = bytes "add"; rule = no_cell }
entry sub = record { spelled = bytes "sub"; rule = no_cell }
entry mul = record { spelled = bytes "mul"; rule = no_cell }
entry div = record { spelled = bytes "div"; rule = no_cell }
entry and = record { spelled = bytes "and"; rule = no_cell }
entry or = record { spelled = bytes "or"; rule = no_cell }
entry not = record { spelled = bytes "not"; rule = no_cell }
entry apndl = record { spelled = bytes "apndl"; rule = one_cell }
entry tlr = record { spelled = bytes "tlr"; rule = n_less_1 }
entry reverse = record { spelled = bytes "reverse"; rule = n_cells }
entry rotl = record { spelled = bytes "rotl"; rule = n_cells }
entry rotr = record { spelled = bytes "rotr"; rule = n_cells }
entry apndr = record { spelled = bytes "apndr"; rule = n_and_1 }
entry distl = record { spelled = bytes "distl"; rule = three_n }
entry distr = record { spelled = bytes "distr"; rule = three_n }
entry trans = record { spelled = bytes "trans"; rule = m_and_m_times_n }

-- in the table's order
abbrev pub ops : List Op
ops =
    id ∷ tl ∷ atom ∷ null ∷ eq ∷ lt ∷ length ∷ add ∷ sub ∷ mul ∷ div ∷ and ∷ or ∷ not ∷
    apndl ∷ tlr ∷ reverse ∷ rotl ∷ rotr ∷ apndr ∷ distl ∷ distr ∷ trans ∷ []
