-- The text is read as the definitions read it, unless it or a table has another length. Assumes nothing.
use Rattle.reading_export.proofs.Calls.{program_long, program_forms, program_names, program_refuses, program_reads}
use Rattle.reading_export.proofs.nattglod_read_program.Goals as goal

pub returns-then-s-gt-PROGRAM_LIMIT : goal.returns-then-s-gt-PROGRAM_LIMIT
returns-then-s-gt-PROGRAM_LIMIT c = search program_long

pub returns-then-forms-ne-FORM_TABLE_SIZE : goal.returns-then-forms-ne-FORM_TABLE_SIZE
returns-then-forms-ne-FORM_TABLE_SIZE c = search program_forms

pub returns-then-definitions-ne-DEFINITION_TABLE_SIZE : goal.returns-then-definitions-ne-DEFINITION_TABLE_SIZE
returns-then-definitions-ne-DEFINITION_TABLE_SIZE c = search program_names

pub returns-in-Err : goal.returns-in-Err
returns-in-Err c = search program_refuses

pub returns-in-Ok : goal.returns-in-Ok
returns-in-Ok c = search program_reads
