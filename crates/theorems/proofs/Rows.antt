-- The starred rows, computed.
use mathlib.Core.Path.{refl}
use Rattle.language.specs.Tokens.{span, place_from, size, size_at, dash_size}
use Rattle.language.specs.Judging.{judge_word, value_from, judge_integer, judge_negative, judge_atom, judge_selector, word_form, judge_part, judge_name, refusal_of}
use Rattle.language.specs.Reading.{refused, mark, opens, inside_sequence, after_object, read_obj, at_end, read_object, after_test, after_part, after_parts, after_form, read_form, definition_at, read_definitions, is_in, none_twice, within_limits, read_program}
use Rattle.language.specs.Writing.{digits, decimal, write_integer, write_obj, write_word, write_form, write_program, scan}
use Rattle.language.specs.Objects.{nth_obj}
use Rattle.language.specs.Meanings.{are_rows, column_at, columns_at}
use Rattle.language.specs.Answers.{run_call}
use Rattle.theorems.specs.Rows.{StarredRows}

pub starred_rows : StarredRows
unfolding run_call read_program read_definitions definition_at within_limits none_twice is_in read_form after_part after_parts after_form after_test read_object read_obj at_end after_object inside_sequence opens mark refused refusal_of judge_name judge_part word_form judge_selector judge_atom judge_negative judge_integer value_from judge_word dash_size size_at size place_from span digits decimal write_integer write_obj write_word write_form write_program scan are_rows column_at columns_at nth_obj
starred_rows = refl
