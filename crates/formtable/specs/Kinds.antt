-- The kinds of records by their numbers. To a constant's and to that of `{f,x}` the tag of the value is added.
use Rattle.std.specs.Prelude.{ℕ}
use Rattle.formtable.specs.declared.kinds.Kind.{Kind}
use Rattle.formtable.specs.declared.kinds.Kind.TheVariants.{Word, Select, SelectRight, Name, Chain, Construct, Insert, ApplyAll, Condition, While, Constant, Bu}

abbrev pub number_of_kind : Kind → ℕ
number_of_kind Word = 1
number_of_kind Select = 2
number_of_kind SelectRight = 3
number_of_kind Name = 4
number_of_kind Chain = 5
number_of_kind Construct = 6
number_of_kind Insert = 7
number_of_kind ApplyAll = 8
number_of_kind Condition = 9
number_of_kind While = 10
number_of_kind Constant = 12
number_of_kind Bu = 16
