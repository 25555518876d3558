-- The definitions on examples, by computation.
use Prim.Native.Nat.{ℕ, zero, suc, ◌*◌}
use Prim.Native.String.{String}
use mathlib.Core.Path.{◌≡◌, refl}
use mathlib.Core.List.{List, [], ◌∷◌, ◌++◌, map}
use lib.ListN.{take, replicate}
use Rattle.language.specs.declared.Answer.{Answer}
use Rattle.language.specs.declared.Meter.{Meter}
use Rattle.language.specs.declared.Token.{Token}
use Rattle.language.specs.Bytes.{bytes}
use Rattle.language.specs.Tokens.{span, place_from, size, size_at, dash_size, token_from}
use Rattle.language.specs.Judging.{judge_word, value_from, judge_integer, judge_negative, judge_atom, judge_selector, word_form, judge_part, judge_name, refusal_of}
use Rattle.language.specs.Reading.{Got, got, no, and_then, refused, mark, opens, inside_sequence, after_object, read_obj, at_end, read_object, after_test, after_part, after_parts, after_form, read_form, definition_at, read_definitions, is_in, none_twice, within_limits, read_program}
use Rattle.language.specs.Objects.{nth_obj}
use Rattle.language.specs.Meanings.{are_rows, column_at, columns_at}
use Rattle.language.specs.Writing.{digits, decimal, write_integer, write_obj, write_word, write_form, write_program, scan}
use Rattle.language.specs.Answers.{Lent, Outcome, run_call, law_call, simplify_call}
use Rattle.language.specs.Fprun.{split, numbers, shown, fprun}

-- ---- the word reader

abbrev tokens : List ℕ → List ℕ → List Token
tokens s ats = map (token_from s) ats

steps_through : tokens (bytes " a1-5 ->- 7r") (0 ∷ 3 ∷ 5 ∷ 8 ∷ 9 ∷ 12 ∷ 40 ∷ []) ≡
    record { place = 1; length = 2 } ∷ record { place = 3; length = 2 } ∷ record { place = 6; length = 2 } ∷ record { place = 8; length = 1 }
    ∷ record { place = 10; length = 2 } ∷ record { place = 12; length = 0 } ∷ record { place = 12; length = 0 } ∷ []
unfolding token_from dash_size size_at size place_from span
steps_through = refl

-- ---- reading, and writing what was read

record Case : Type 0 where
  text : String
  says : Got (List ℕ)

-- read and written as it stands; read, and written another way; refused
abbrev same : String → ℕ → Case
same s e = record { text = s; says = got (bytes s) e }

abbrev becomes : String → String → ℕ → Case
becomes s t e = record { text = s; says = got (bytes t) e }

abbrev refuses : String → (number place : ℕ) → Case
refuses s n p = record { text = s; says = no n p }

abbrev rewrite_object : Case → Got (List ℕ)
rewrite_object c = and_then (read_object (bytes c.text)) (λ x e. got (write_obj x) e)

abbrev objects : List Case
objects =
    same "<<2,3>,<5,-7>>" 14 ∷ same "<>" 2 ∷ same "A" 1 ∷ same "0" 1 ∷ same "-2147483648" 11 ∷ same "2147483647" 10 ∷ same "ABCDEFGHIJ12" 12
    ∷ becomes " < 1 ,\n<> > " "<1,<>>" 12
    ∷ refuses "" 6 0 ∷ refuses "  " 6 2 ∷ refuses "<1," 6 3 ∷ refuses "<1,>" 6 3 ∷ refuses "<,1>" 6 1 ∷ refuses "A B" 6 2 ∷ refuses "a" 6 0 ∷ refuses "Ab" 6 0
    ∷ refuses "12r" 6 0 ∷ refuses "-5r" 6 0 ∷ refuses "- 5" 6 0 ∷ refuses "--5" 6 0 ∷ refuses "->" 6 0 ∷ refuses "\t1" 6 0
    ∷ refuses "007" 8 0 ∷ refuses "007a" 6 0 ∷ refuses "-0" 8 0 ∷ refuses " -01" 8 1 ∷ refuses "2147483648" 8 0 ∷ refuses "-2147483649" 8 0 ∷ refuses "1234567890123" 8 0
    ∷ refuses "ABCDEFGHIJKLM" 9 0 ∷ refuses "1 ABCDEFGHIJKLM" 9 2 ∷ refuses "<1 abcdefghijklm" 9 3 ∷ refuses "1abcdefghijklm" 6 0
    ∷ same "<<<<<<<<<<<<<<<<<<<<<<<<<<<<<<<<>>>>>>>>>>>>>>>>>>>>>>>>>>>>>>>>" 64
    ∷ refuses "<<<<<<<<<<<<<<<<<<<<<<<<<<<<<<<<<x" 7 32
    ∷ []

objects_read : map rewrite_object objects ≡ map (λ (c : Case). c.says) objects
unfolding read_object read_obj at_end after_object inside_sequence opens mark refused refusal_of judge_atom judge_negative judge_integer value_from judge_word dash_size size_at size place_from span digits decimal write_integer write_obj
objects_read = refl

abbrev rewrite_program : Case → Got (List ℕ)
rewrite_program c = and_then (read_program (bytes c.text)) (λ P e. got (write_program P) e)

abbrev programs : List Case
programs =
    same "" 0 ∷ becomes " \n" "" 2 ∷ same "main=/add.@mul.trans;" 21 ∷ same "main=last;last=(null.tl->1;last.tl);" 36 ∷ same "k=kr;kr=255r;" 13
    ∷ same "f=/(a.b);g=(p?[x,2r,%<A,-3>]);h={(a.b),<1>}.@(c.d);" 51
    ∷ becomes "f = ( ( a . ( b ) ) ) ; " "f=a.b;" 24 ∷ same "f=(a.b).c;" 10 ∷ becomes "f=[(a.b),(c)];" "f=[a.b,c];" 14 ∷ becomes "f=/(a);" "f=/a;" 7
    ∷ refuses "main=1" 6 6 ∷ refuses "main=;" 6 5 ∷ refuses "main 1;" 6 5 ∷ refuses "main=[];" 6 6 ∷ refuses "main=(a->b;c;" 6 12 ∷ refuses "main=(a- >b;c);" 6 7 ∷ refuses "f=a.;" 6 4 ∷ refuses "f={a};" 6 4
    ∷ refuses "main=A;" 6 5 ∷ refuses "Main=1;" 6 0 ∷ refuses "id=1;" 6 0 ∷ refuses "1=id;" 6 0 ∷ refuses "f=%id;" 6 3 ∷ refuses "f=%;" 6 3 ∷ refuses "main=-1;" 6 5 ∷ refuses "f=1R;" 6 2 ∷ refuses "f=1rr;" 6 2
    ∷ refuses "f=0;" 8 2 ∷ refuses "f=0r;" 8 2 ∷ refuses "f=00;" 8 2 ∷ refuses "f=01r;" 8 2 ∷ refuses "f=256;" 8 2 ∷ refuses "f=256r;" 8 2 ∷ refuses "f=%-0;" 8 3
    ∷ refuses "f=abcdefghijklm;" 9 2 ∷ refuses "f=1 abcdefghijklm;" 9 4 ∷ refuses "abcdefghijklm=1;" 9 0 ∷ refuses "f=Abcdefghijklm;" 9 2
    ∷ refuses "f=////////////////////////////////%1;" 7 34 ∷ refuses "f=((((((((((((((((((((((((((((((((([" 7 34 ∷ refuses "f=////////////////////////////////>" 6 34
    ∷ refuses "a=1;a=2;" 11 4 ∷ refuses "a=1;b=1;b=2;a=2;" 11 8 ∷ refuses "a=1;a=2;b" 6 9
    ∷ []

programs_read : map rewrite_program programs ≡ map (λ (c : Case). c.says) programs
unfolding read_program read_definitions definition_at within_limits none_twice is_in read_form after_part after_parts after_form after_test read_obj after_object inside_sequence opens mark refused refusal_of judge_name judge_part word_form judge_selector judge_atom judge_negative judge_integer value_from judge_word dash_size size_at size place_from span digits decimal write_integer write_obj write_word write_form write_program
programs_read = refl

-- ---- calls: the six numbers and the text written

record Seen : Type 0 where
  answer : Answer
  text : List ℕ

abbrev seen : Outcome → Seen
seen o = record { answer = o.answer; text = take o.answer.length o.lent.output }

abbrev answers : (number place text steps cells length : ℕ) → String → Seen
answers n p t s c l w = record { answer = record { number = n; place = p; text = t; steps = s; cells = c; length = l }; text = bytes w }

abbrev lent_tables : (cells room : ℕ) → Lent
lent_tables c room = record { forms = replicate 8192 0; cells = replicate (4 * c) 0; output = replicate room 0 }

record RunCase : Type 0 where
  program : String
  object : String
  budgets : Meter
  room : ℕ
  says : Seen

abbrev runs : RunCase → Seen
runs r = seen (run_call (bytes r.program) (bytes r.object) r.budgets (lent_tables r.budgets.cells r.room))

abbrev budget : (steps names cells : ℕ) → Meter
budget s n c = record { steps = s; names = n; cells = c }

-- with budgets that are enough, an object
abbrev done : (program object : String) → (steps cells length : ℕ) → String → RunCase
done p o s c l t = record { program = p; object = o; budgets = budget 100 8 32; room = 32; says = answers 20 0 0 s c l t }

abbrev falls : (program object : String) → (steps cells : ℕ) → RunCase
falls p o s c = record { program = p; object = o; budgets = budget 100 8 32; room = 32; says = answers 21 0 0 s c 0 "" }

abbrev ends : (program object : String) → Meter → (room number place text steps cells : ℕ) → RunCase
ends p o b room n pl t s c = record { program = p; object = o; budgets = b; room = room; says = answers n pl t s c 0 "" }

-- each word's meaning and cells
abbrev words : List RunCase
words =
    done "main=2;" "<A,B>" 2 2 1 "B" ∷ done "main=2r;" "<A,B>" 2 2 1 "A" ∷ falls "main=3;" "<A,B>" 2 2 ∷ falls "main=3r;" "<A,B>" 2 2 ∷ falls "main=1;" "A" 2 0
    ∷ done "main=tl;" "<A,B>" 2 2 3 "<B>" ∷ falls "main=tl;" "<>" 2 0 ∷ done "main=tlr;" "<A,B>" 2 3 3 "<A>" ∷ done "main=tlr;" "<A>" 2 1 2 "<>" ∷ falls "main=tlr;" "<>" 2 0
    ∷ done "main=atom;" "<>" 2 0 1 "T" ∷ done "main=atom;" "<1>" 2 1 1 "F" ∷ done "main=null;" "A" 2 0 1 "F" ∷ done "main=null;" "<>" 2 0 1 "T"
    ∷ done "main=eq;" "<<1>,<1,2>>" 4 5 1 "F" ∷ done "main=eq;" "<<1,2>,<1,2>>" 5 6 1 "T" ∷ done "main=eq;" "<<>,A>" 3 2 1 "F" ∷ falls "main=eq;" "<1>" 2 1
    ∷ done "main=lt;" "<-1,0>" 2 2 1 "T" ∷ falls "main=lt;" "<A,0>" 2 2 ∷ done "main=length;" "<A,<B>>" 2 3 1 "2" ∷ falls "main=length;" "A" 2 0
    ∷ done "main=add;" "<2147483646,1>" 2 2 10 "2147483647" ∷ done "main=sub;" "<1,3>" 2 2 2 "-2" ∷ done "main=mul;" "<-3,4>" 2 2 3 "-12" ∷ falls "main=mul;" "<65536,32768>" 2 2
    ∷ done "main=div;" "<7,-2>" 2 2 2 "-3" ∷ falls "main=div;" "<1,0>" 2 2 ∷ falls "main=div;" "<-2147483648,-1>" 2 2
    ∷ done "main=and;" "<T,F>" 2 2 1 "F" ∷ done "main=or;" "<T,F>" 2 2 1 "T" ∷ done "main=not;" "F" 2 0 1 "T" ∷ falls "main=not;" "1" 2 0 ∷ falls "main=and;" "<T,A>" 2 2
    ∷ done "main=apndl;" "<A,<B,C>>" 2 5 7 "<A,B,C>" ∷ done "main=apndl;" "<A,<>>" 2 3 3 "<A>" ∷ falls "main=apndl;" "<A,B>" 2 2 ∷ done "main=apndr;" "<<A,B>,C>" 2 7 7 "<A,B,C>"
    ∷ done "main=reverse;" "<A,B,C>" 2 6 7 "<C,B,A>" ∷ done "main=reverse;" "<>" 2 0 2 "<>" ∷ falls "main=reverse;" "A" 2 0 ∷ done "main=rotl;" "<A,B,C>" 2 6 7 "<B,C,A>" ∷ done "main=rotr;" "<A,B,C>" 2 6 7 "<C,A,B>" ∷ done "main=rotl;" "<A>" 2 2 3 "<A>"
    ∷ done "main=distl;" "<A,<B,C>>" 2 10 13 "<<A,B>,<A,C>>" ∷ done "main=distr;" "<<B,C>,A>" 2 10 13 "<<B,A>,<C,A>>" ∷ done "main=distl;" "<A,<>>" 2 2 2 "<>" ∷ falls "main=distl;" "<A,B>" 2 2
    ∷ done "main=trans;" "<<A,B,C>,<1,2,3>>" 2 17 19 "<<A,1>,<B,2>,<C,3>>" ∷ done "main=trans;" "<<>,<>>" 2 2 2 "<>" ∷ falls "main=trans;" "<>" 2 0 ∷ falls "main=trans;" "<<1>,<>>" 2 3 ∷ falls "main=trans;" "<<1>,A>" 2 3
    ∷ []

words_answer : map runs words ≡ map (λ (r : RunCase). r.says) words
unfolding run_call read_program read_definitions definition_at within_limits none_twice is_in read_form after_part after_parts after_form after_test read_object read_obj at_end after_object inside_sequence opens mark refused refusal_of judge_name judge_part word_form judge_selector judge_atom judge_negative judge_integer value_from judge_word dash_size size_at size place_from span digits decimal write_integer write_obj scan are_rows column_at columns_at nth_obj
words_answer = refl

-- forms, budgets and the order of the answers
abbrev forms : List RunCase
forms =
    done "main=[id,%B];" "A" 4 2 5 "<A,B>" ∷ done "main={apndl,A};" "<>" 3 3 3 "<A>" ∷ done "main=@length;" "<<A>,<>>" 4 5 5 "<1,0>" ∷ done "main=@zap;" "<>" 2 0 2 "<>" ∷ falls "main=@id;" "A" 2 0
    ∷ done "main=/add;" "<9>" 2 1 1 "9" ∷ done "main=/sub;" "<1,2,3>" 4 7 1 "2" ∷ falls "main=/add;" "<>" 2 0 ∷ falls "main=/add;" "A" 2 0
    ∷ done "main=(atom->%Y;%N);" "<>" 4 0 1 "Y" ∷ falls "main=(id->%Y;%N);" "A" 3 0 ∷ done "main=(not.null?tl);" "<A,B>" 13 2 2 "<>" ∷ done "main=%<1,<2>>;" "A" 2 3 7 "<1,<2>>"
    ∷ falls "" "A" 1 0 ∷ falls "a=1;" "A" 1 0 ∷ falls "main=1.[id,zap];" "5" 5 0 ∷ falls "main=reverse.reverse;" "A" 3 0 ∷ falls "main=@(id.1).@tl;" "<<1>,A>" 5 3
    ∷ ends "main=id;" "A" (budget 1 8 0) 9 22 0 0 1 0 ∷ ends "main=id;" "A" (budget 0 0 0) 9 22 0 0 0 0 ∷ ends "main=id;" "A" (budget 5 0 0) 9 23 0 0 1 0 ∷ ends "main=zap;" "A" (budget 5 1 0) 9 21 0 0 2 0
    ∷ record { program = "main=a.a;a=id;"; object = "A"; budgets = budget 9 2 0; room = 9; says = answers 20 0 0 6 0 1 "A" }
    ∷ ends "main=[id];" "A" (budget 9 9 0) 9 24 0 0 3 0 ∷ ends "main=eq;" "<<1,2>,<1,3>>" (budget 4 9 6) 9 22 0 0 4 6 ∷ ends "main=id;" "<A>" (budget 9 9 0) 9 13 0 0 0 0 ∷ ends "a=%<1,2>;" "A" (budget 9 9 1) 9 13 0 0 0 0
    ∷ ends "main=id;" "<A>" (budget 9 9 9) 2 25 0 0 2 1 ∷ ends "main=1" "<" (budget 9 9 9) 9 6 6 1 0 0 ∷ ends "main=1;" "<" (budget 9 9 9) 9 6 1 2 0 0 ∷ ends "a=1;a=1;" "<" (budget 9 9 9) 9 11 4 1 0 0
    ∷ ends "main=%" "<" (budget 1000001 9 9) 9 3 0 0 0 0 ∷ ends "main=%" "<" (budget 9 257 9) 9 4 0 0 0 0 ∷ ends "main=%" "<" (budget 9 9 4097) 9 5 0 0 0 0
    ∷ []

forms_answer : map runs forms ≡ map (λ (r : RunCase). r.says) forms
unfolding run_call read_program read_definitions definition_at within_limits none_twice is_in read_form after_part after_parts after_form after_test read_object read_obj at_end after_object inside_sequence opens mark refused refusal_of judge_name judge_part word_form judge_selector judge_atom judge_negative judge_integer value_from judge_word dash_size size_at size place_from span digits decimal write_integer write_obj scan
forms_answer = refl

-- 25 and 26: the first byte from the left decides, 26 if the same byte
abbrev deep : String
deep = "main=[[[[[[[[[[[[[[[[[[[[[[[[[[[[[[[[id]]]]]]]]]]]]]]]]]]]]]]]]]]]]]]]];"

abbrev deep_case : (room number : ℕ) → RunCase
deep_case room n = ends deep "<>" (budget 100 8 40) room n 0 0 34 32

abbrev deep_runs : List RunCase
deep_runs = deep_case 64 26 ∷ deep_case 33 26 ∷ deep_case 32 26 ∷ deep_case 31 25 ∷ deep_case 0 25 ∷ []

deep_answers : map runs deep_runs ≡ map (λ (r : RunCase). r.says) deep_runs
unfolding run_call read_program read_definitions definition_at within_limits none_twice is_in read_form after_part after_parts after_form after_test read_object read_obj at_end after_object inside_sequence opens mark refused refusal_of judge_name judge_part word_form judge_selector judge_atom judge_negative judge_integer value_from judge_word dash_size size_at size place_from span digits decimal write_integer write_obj scan
deep_answers = refl

-- Texts too long, and too many definitions.
abbrev times : ℕ → List ℕ → List ℕ
times zero s = []
times (suc n) s = s ++ times n s

abbrev number_of : (program object : List ℕ) → ℕ
number_of program object = (run_call program object (budget 100 8 4) (lent_tables 4 8)).answer.number

too_long : number_of (times 8193 (bytes " ")) (bytes "A") ∷ number_of [] (times 16385 (bytes " ")) ∷ [] ≡ 1 ∷ 2 ∷ []
unfolding run_call
too_long = refl

too_many_definitions : read_program (times 129 (bytes "a=id;")) ≡ no 10 0
unfolding read_program read_definitions definition_at within_limits none_twice is_in read_form after_part after_parts after_form after_test read_obj after_object inside_sequence opens mark refused refusal_of judge_name judge_part word_form judge_selector judge_atom judge_negative judge_integer value_from judge_word dash_size size_at size place_from span digits decimal write_integer write_obj write_word write_form write_program
too_many_definitions = refl

-- ---- laws

record LawCase : Type 0 where
  program : String
  law : ℕ
  place : ℕ
  says : Seen

abbrev uses : LawCase → Seen
uses r = seen (law_call (bytes r.program) r.law r.place (lent_tables 4096 64))

abbrev applies : String → (law place : ℕ) → String → (length : ℕ) → LawCase
applies p l i t n = record { program = p; law = l; place = i; says = answers 20 0 0 1 0 n t }

abbrev useless : String → (law place : ℕ) → LawCase
useless p l i = record { program = p; law = l; place = i; says = answers 14 0 0 0 0 0 "" }

abbrev law_cases : List LawCase
law_cases =
    applies "f=a.id.id;" 1 0 "f=a.id;" 7 ∷ applies "f=id.a;" 1 0 "f=a;" 4 ∷ useless "f=id;" 1 0 ∷ applies "f=x.(id.a.b);" 1 2 "f=x.(a.b);" 10 ∷ applies "f=x.(id.(a.b));" 1 2 "f=x.a.b;" 8
    ∷ applies "f=a.(b.(c.d)).(e.g);" 2 0 "f=a.b.(c.d).(e.g);" 18 ∷ useless "f=a.b;" 2 0
    ∷ applies "f=[a.h,b.h];" 3 0 "f=[a,b].h;" 10 ∷ applies "f=x.[a.(h.k),b.(h.k)];" 3 2 "f=x.[a,b].h.k;" 14 ∷ useless "f=[a.h];" 3 0 ∷ useless "f=[a.h,b.g];" 3 0 ∷ useless "f=[a.h,b.c.h];" 3 0
    ∷ applies "f=(p.h->a.h;b.h);" 4 0 "f=(p->a;b).h;" 13 ∷ useless "f=(p.h->a.h;b.g);" 4 0 ∷ useless "f=(p.1->a.1;b.1r);" 4 0
    ∷ applies "f=a.[%1,b];" 5 0 "f={a,1}.b;" 10 ∷ applies "f=a.[%1,b.c].d;" 5 0 "f={a,1}.b.c.d;" 14 ∷ useless "f=a.[b,%1];" 5 0 ∷ useless "f=[%1,b];" 5 0
    ∷ applies "f=1.[a,%2];" 6 0 "f=a;" 4 ∷ applies "f=1r.[id,[null,%1]];" 6 0 "f=[null,%1];" 12 ∷ useless "main=1.[id,zap];" 6 0 ∷ useless "f=1.[a,tl];" 6 0 ∷ useless "f=1.[a,id.id];" 6 0 ∷ useless "f=3.[id,id];" 6 0 ∷ applies "f=x.(1.[a.b,id]);" 6 2 "f=x.(a.b);" 10 ∷ applies "f=1.[a];" 6 0 "f=a;" 4
    ∷ applies "f=tl.[%1,a,b];" 7 0 "f=[a,b];" 8 ∷ useless "f=tl.[a,b];" 7 0 ∷ useless "f=tl.[id];" 7 0
    ∷ applies "f=%1.id.a;" 8 0 "f=%1.a;" 7 ∷ applies "f=%1.[id,atom];" 8 0 "f=%1;" 5 ∷ useless "f=%1.a;" 8 0
    ∷ applies "f=(%T->a;b);" 9 0 "f=a;" 4 ∷ applies "f=x.(%F->a;b.c);" 9 2 "f=x.b.c;" 8 ∷ useless "f=(%1->a;b);" 9 0
    ∷ applies "f=apndl.[a,[b,c]];" 10 0 "f=[a,b,c];" 10 ∷ useless "f=apndl.[a,b];" 10 0
    ∷ applies "f=(p->(p->a;b);c);" 11 0 "f=(p->a;c);" 11 ∷ useless "f=(p->(q->a;b);c);" 11 0
    ∷ applies "f=a;g=id.b;" 1 1 "f=a;g=b;" 8 ∷ useless "f=id.a;" 1 3 ∷ useless "" 1 0 ∷ useless "f=reverse.reverse;" 1 0 ∷ useless "f=@a.@b;" 2 0
    ∷ record { program = "f=a;"; law = 0; place = 0; says = answers 15 0 0 0 0 0 "" } ∷ record { program = "f=a;"; law = 12; place = 9; says = answers 15 0 0 0 0 0 "" } ∷ record { program = "f="; law = 12; place = 9; says = answers 6 2 1 0 0 0 "" }
    ∷ []

laws_answer : map uses law_cases ≡ map (λ (r : LawCase). r.says) law_cases
unfolding law_call read_program read_definitions definition_at within_limits none_twice is_in read_form after_part after_parts after_form after_test read_obj after_object inside_sequence opens mark refused refusal_of judge_name judge_part word_form judge_selector judge_atom judge_negative judge_integer value_from judge_word dash_size size_at size place_from span digits decimal write_integer write_obj write_word write_form write_program
laws_answer = refl

-- A use whose written result would open a 33rd mark doesn't apply: behind 31 prefixes the new chain's bracket leaves no mark for `[`.
abbrev deep_laws : List LawCase
deep_laws =
    useless "f=///////////////////////////////[a.h,b.h];" 3 31
    ∷ applies "f=//////////////////////////////[a.h,b.h];" 3 30 "f=//////////////////////////////([a,b].h);" 42
    ∷ []

deep_laws_answer : map uses deep_laws ≡ map (λ (r : LawCase). r.says) deep_laws
unfolding law_call read_program read_definitions definition_at within_limits none_twice is_in read_form after_part after_parts after_form after_test read_obj after_object inside_sequence opens mark refused refusal_of judge_name judge_part word_form judge_selector judge_atom judge_negative judge_integer value_from judge_word dash_size size_at size place_from span digits decimal write_integer write_obj write_word write_form write_program
deep_laws_answer = refl

-- ---- the simplifier

record SimpleCase : Type 0 where
  program : String
  room : ℕ
  says : Seen

abbrev simplified : SimpleCase → Seen
simplified r = seen (simplify_call (bytes r.program) (lent_tables 4096 r.room))

abbrev simple_cases : List SimpleCase
simple_cases =
    record { program = "main=add.[%1,id];"; room = 64; says = answers 20 0 0 2 0 13 "main={add,1};" }
    ∷ record { program = ""; room = 0; says = answers 20 0 0 0 0 0 "" }
    ∷ record { program = "f=2.[%1,g];"; room = 64; says = answers 20 0 0 1 0 10 "f={2,1}.g;" }
    ∷ record { program = "f=id.id.id;"; room = 3; says = answers 25 0 0 2 0 0 "" }
    ∷ record { program = "f=[a.(h.k),b.(h.k)].id;g=(%T->1.[a,%2];b);"; room = 64; says = answers 20 0 0 4 0 16 "f=[a,b].h.k;g=a;" }
    ∷ record { program = "f=1.[id,zap];"; room = 64; says = answers 20 0 0 0 0 13 "f=1.[id,zap];" }
    ∷ record { program = "f=(;"; room = 64; says = answers 6 3 1 0 0 0 "" }
    ∷ []

simplifier_answers : map simplified simple_cases ≡ map (λ (r : SimpleCase). r.says) simple_cases
unfolding simplify_call read_program read_definitions definition_at within_limits none_twice is_in read_form after_part after_parts after_form after_test read_obj after_object inside_sequence opens mark refused refusal_of judge_name judge_part word_form judge_selector judge_atom judge_negative judge_integer value_from judge_word dash_size size_at size place_from span digits decimal write_integer write_obj write_word write_form write_program
simplifier_answers = refl

-- ---- fprun

abbrev inputs : List String
inputs =
    "100 8 64\nmain=/add.@mul.trans;\n<<2,3>,<5,7>>\n" ∷ "0 0 0\n\nA\n" ∷ "1000001 1 1\n\nA\n" ∷ "1 1 9999999\n\nA\n" ∷ "9 9 9\nmain=\nA\n"
    ∷ "" ∷ "1 1 1\n\nA" ∷ "1 1 1\n\nA\n\n" ∷ "01 1 1\n\nA\n" ∷ "1  1 1\n\nA\n" ∷ "1 1 1 \n\nA\n" ∷ "12345678 1 1\n\nA\n" ∷ "1 1\n\nA\n" ∷ []

abbrev outputs : List String
outputs =
    "20 0 0 8 16 2\n31\n" ∷ "22 0 0 0 0 0\n" ∷ "3 0 0 0 0 0\n" ∷ "5 0 0 0 0 0\n" ∷ "6 5 1 0 0 0\n"
    ∷ "99\n" ∷ "99\n" ∷ "99\n" ∷ "99\n" ∷ "99\n" ∷ "99\n" ∷ "99\n" ∷ "99\n" ∷ []

fprun_prints : map (λ (s : String). fprun (bytes s)) inputs ≡ map bytes outputs
unfolding fprun shown numbers split run_call read_program read_definitions definition_at within_limits none_twice is_in read_form after_part after_parts after_form after_test read_object read_obj at_end after_object inside_sequence opens mark refused refusal_of judge_name judge_part word_form judge_selector judge_atom judge_negative judge_integer value_from judge_word dash_size size_at size place_from span digits decimal write_integer write_obj scan are_rows column_at columns_at nth_obj
fprun_prints = refl
