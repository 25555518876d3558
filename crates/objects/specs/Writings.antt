-- What the writer's functions answer: how far a walk over a text came, by the scan of the text, and what stands in the output then.
use Rattle.std.specs.Prelude.{◌≡◌, ℕ, ◌+◌, ◌-◌, ◌<◌, ◌≤◌, min, Bool, true, not, Result, Ok, Err, ◌&&◌, List, [], ◌∷◌, ◌++◌, length, drop, ◌==◌, ◌≢◌}
use Prim.Native.Char.{code}
use Rattle.language.specs.Numbers.{written_limit}
use Rattle.language.specs.Objects.{Obj, seq, Objs, ◌::◌}
use Rattle.language.specs.Judging.{all}
use Rattle.language.specs.Accepted.{IsSymbol}
use Rattle.packing.specs.Packing.{packed}
use Rattle.language.specs.Writing.{decimal, write_obj, write_objs, Scan, on, short, deep, scan, open_behind}
use Rattle.language.specs.declared.Val.{Val}
use Rattle.tables.specs.Tables.{put}
use Rattle.cells.specs.Cells.{Rep}
use Rattle.objects.specs.declared.cursor.Writer.{Writer}
use Rattle.objects.specs.declared.NotWritten.{NotWritten}
use Rattle.objects.specs.declared.NotWritten.TheVariants.{NoRoom, TooDeep}

-- what became of writing: the place behind what was written, or why it isn't
abbrev pub Written : Type 0
Written = Result ℕ NotWritten

-- where a walk has come to that ended so
abbrev pub placed : Result (Unit {0}) NotWritten → ℕ → Written
placed (Ok u) at = Ok at
placed (Err why) at = Err why

-- the same output, of the same length, and the same limit
abbrev pub Kept : Writer → Writer → Type 0
Kept w w' = (w'.out.ghost_name ≡ w.out.ghost_name) × (length w'.out.now ≡ length w.out.now) × (w'.cap ≡ w.cap)

-- the answers' numbers
abbrev pub number_of : NotWritten → ℕ
number_of NoRoom = 25
number_of TooDeep = 26

-- the digits of n stand from r up to the end
pub record DigitsAt (n r : ℕ) (a : List ℕ) : Type 0 where
  pub high : r ≤ 20
  pub is : drop r a ≡ decimal n

-- the text stands at the place; or the output has no room for all of it, and nothing has changed
pub record PutText (out : List ℕ) (at : ℕ) (text out' : List ℕ) : Type 0 where
  pub is : at + length text ≤ length out → out' ≡ put out at text
  pub stays : length out < at + length text → out' ≡ out

-- A walk over a text from `at` on, which may go up to `cap`: d marks are open before it and d' behind it. It answers by the
-- scan of the text; where all of it fits, and the output has room for it, the text stands there.
pub data WalkedText (text : List ℕ) (d d' at cap : ℕ) (r : Written) (out out' : List ℕ) : Type 0 where
  fits : r ≡ Ok (at + length text) → at + length text ≤ cap → scan text d (cap - at) ≡ on d' (cap - (at + length text)) → (at + length text ≤ length out → out' ≡ put out at text) → WalkedText text d d' at cap r out out'
  too_long : r ≡ Err NoRoom → scan text d (cap - at) ≡ short → WalkedText text d d' at cap r out out'
  too_deep : r ≡ Err TooDeep → scan text d (cap - at) ≡ deep → WalkedText text d d' at cap r out out'

-- a walk ends between its start and the limit
pub record Within (at cap : ℕ) (r : Written) : Type 0 where
  pub ends : (e : ℕ) → r ≡ Ok e → (at ≤ e) × (e ≤ cap)

-- bytes that open and close nothing
unfoldable pub is_flat : ℕ → Bool
is_flat b = not (b == (code "<")) && not (b == (code ">"))

pub record TextWalked (text : List ℕ) (at cap : ℕ) (r : Written) (out out' : List ℕ) : Type 0 where
  pub within : Within at cap r
  pub means : (d : ℕ) → all is_flat text ≡ true → WalkedText text d d at cap r out out'

pub record MarkWalked (b at cap : ℕ) (r : Written) (out out' : List ℕ) : Type 0 where
  pub within : Within at cap r
  pub means : (d : ℕ) → (b ≢ code "<") → WalkedText (b ∷ []) d (open_behind b d) at cap r out out'
  pub opens : (d : ℕ) → b ≡ code "<" → d < 32 → WalkedText (b ∷ []) d (d + 1) at cap r out out'

pub record DecimalWalked (n at cap : ℕ) (r : Written) (out out' : List ℕ) : Type 0 where
  pub within : Within at cap r
  pub means : (d : ℕ) → WalkedText (decimal n) d d at cap r out out'

pub record SymbolWalked (word at cap : ℕ) (r : Written) (out out' : List ℕ) : Type 0 where
  pub within : Within at cap r
  pub means : (d : ℕ) (w : List ℕ) → IsSymbol w → word ≡ packed w → WalkedText w d d at cap r out out'

pub record AtomWalked (v : Val) (at cap : ℕ) (r : Written) (out out' : List ℕ) : Type 0 where
  pub within : Within at cap r
  pub means : (d : ℕ) (C : List ℕ) (n : ℕ) (x : Obj) → (v.tag ≢ 3) → Rep C n v x → WalkedText (write_obj x) d d at cap r out out'

pub record ObjectWalked (C : List ℕ) (v : Val) (at cap opened : ℕ) (r : Written) (out out' : List ℕ) : Type 0 where
  pub within : Within at cap r
  pub means : (n : ℕ) (x : Obj) → n < 4294967296 → Rep C n v x → WalkedText (write_obj x) opened opened at cap r out out'

-- the object in the first place of a sequence, and the mark b
pub record PlaceWalked (C : List ℕ) (v : Val) (at cap opened b : ℕ) (r : Written) (out out' : List ℕ) : Type 0 where
  pub within : Within at cap r
  pub means : (n : ℕ) (x : Obj) (xs : Objs) → n < 4294967296 → (b ≢ code "<") → Rep C n v (seq (x :: xs)) → WalkedText (write_obj x ++ (b ∷ [])) opened (open_behind b opened) at cap r out out'

-- the places of a sequence, up to the `>`
pub record PlacesWalked (C : List ℕ) (v : Val) (at cap opened : ℕ) (r : Written) (out out' : List ℕ) : Type 0 where
  pub within : Within at cap r
  pub means : (n : ℕ) (x : Obj) (xs : Objs) → n < 4294967296 → Rep C n v (seq (x :: xs)) → WalkedText (write_objs (x :: xs)) opened (opened - 1) at cap r out out'

-- the bytes that an output of n bytes may take
abbrev pub output_room : ℕ → ℕ
output_room n = min n written_limit

-- The text stands in front and the rest of the output is as it was; or nothing has changed.
pub data ObjectEnd (text : List ℕ) (r : Written) (out out' : List ℕ) : Scan → Type 0 where
  object_written : {d room : ℕ} → r ≡ Ok (length text) → out' ≡ text ++ drop (length text) out → ObjectEnd text r out out' (on d room)
  no_room : r ≡ Err NoRoom → out' ≡ out → ObjectEnd text r out out' short
  no_mark : r ≡ Err TooDeep → out' ≡ out → ObjectEnd text r out out' deep

pub record ObjectWritten (C : List ℕ) (v : Val) (r : Written) (out out' : List ℕ) : Type 0 where
  pub within : Within 0 (output_room (length out)) r
  pub means : (n : ℕ) (x : Obj) → n < 4294967296 → Rep C n v x → ObjectEnd (write_obj x) r out out' (scan (write_obj x) 0 (output_room (length out)))
