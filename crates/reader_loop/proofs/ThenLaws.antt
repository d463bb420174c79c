-- One reader after another, by what the first has told: a law for each of its answers. Assumes nothing.
use Prim.Native.Nat.{ℕ, ◌≤◌}
use native.Mathlib.Omega.{arith}
use mathlib.Core.Path.{◌≡◌, sym, ap, ◌∙◌, subst}
use mathlib.Core.List.{List}
use Rattle.sheet_rules.specs.declared.Place.{Place}
use Rattle.sheet_rules.specs.declared.Reason.{Reason}
use Rattle.sheet_rules.specs.Reader.{Read, refused, Reader, and_then}
use Rattle.sheet_rules.proofs.ReaderLaws.{Gives, its_got}
use Rattle.lexer.specs.declared.numbers.Numbers.{Numbers}
use Rattle.line_reader.specs.declared.Cursor.{Cursor}
use Rattle.line_reader.specs.declared.TakenLine.{TakenLine}
use Rattle.line_reader.specs.Told.{Past, read_from, got_at, line_read, Onward, read_told, Advanced}
use Rattle.std.specs.declared.result.Result.{Result}
use Rattle.std.specs.declared.result.Result.TheVariants.{Ok, Err}
use Rattle.sheet_rules.specs.declared.Refusal.{Refusal}
use Rattle.table.proofs.ViewLaws.{Only-refl}
use Rattle.line_reader.proofs.ExitLaws.{Passes, passed_on}
use Rattle.reader_loop.specs.Items.{ItemRead}

then_got : {A B : Type 0} (x : Read A) (k : A → Reader B) (a : A) (text : List ℕ) (c : Cursor) → got_at text c a ≡ x → and_then x k ≡ read_from text c (k a)
unfolding and_then
then_got x k a text c e = ap (λ y. and_then y k) (sym e)

pub then_stop : {A B : Type 0} (x : Read A) (k : A → Reader B) (q : Reason) (l : ℕ) → refused q l ≡ x → and_then x k ≡ refused q l
unfolding and_then
then_stop x k q l e = ap (λ y. and_then y k) (sym e)

-- after a line
module _ {A B : Type 0} (text : List ℕ) (make : Place → Numbers → A) {x : Read A} (f : A → Reader B) {p : Result TakenLine Refusal} (told : line_read text make p ≡ x) where
  pub line_then : {line : TakenLine} → p ≡ Ok line → and_then x f ≡ read_from text line.next (f (make line.place line.numbers))
  line_then {line} e = then_got x f (make line.place line.numbers) text line.next (ap (line_read text make) (sym e) ∙ told)

  pub line_stop : {q : Refusal} → p ≡ Err q → and_then x f ≡ refused q.reason q.line
  line_stop {q} e = then_stop x f q.reason q.line (ap (line_read text make) (sym e) ∙ told)

-- what every value that reading gives has, the code's value has
pub line_gives : {A : Type 0} (text : List ℕ) (make : Place → Numbers → A) {x : Read A} {p : Result TakenLine Refusal} → line_read text make p ≡ x
    → {line : TakenLine} → p ≡ Ok line → (P : A → Type 0) → Gives P x → P (make line.place line.numbers)
line_gives {A} text make told {line} e P g = go (make line.place line.numbers) line.next (subst (Gives P) (sym (ap (line_read text make) (sym e) ∙ told)) g)
  where
    go : (a : A) (c : Cursor) → Gives P (got_at text c a) → P a
    go a c (its_got h) = h

-- an item that is refused with the buffer as it is
pub item_refused : {A : Type 0} {text : List ℕ} (item : Reader A) (value : List ℕ → A) (used : List ℕ → ℕ) (lo hi : ℕ) (from : Cursor) (w : List ℕ) {q : Refusal}
    → read_from text from item ≡ refused q.reason q.line → {r : Result Cursor Refusal} → Passes r q → ItemRead text item value used lo hi from w w r
item_refused {text = text} item value used lo hi from w x h =
    passed_on (ItemRead text item value used lo hi from w w) h (record { told = sym x; only = Only-refl lo hi w; advanced = Advanced.stopped })

-- after some lines
module _ {A B : Type 0} (text : List ℕ) {x : Read A} (k : A → Reader B) {r : Result Cursor Refusal} (a : A) (told : read_told text r a ≡ x) where
  pub Moved-then : {c : Cursor} → r ≡ Ok c → and_then x k ≡ read_from text c (k a)
  Moved-then {c} e = then_got x k a text c (ap (λ (y : Result Cursor Refusal). read_told text y a) (sym e) ∙ told)

  pub moved_stop : {q : Refusal} → r ≡ Err q → and_then x k ≡ refused q.reason q.line
  moved_stop {q} e = then_stop x k q.reason q.line (ap (λ (y : Result Cursor Refusal). read_told text y a) (sym e) ∙ told)

-- where reading stands after a line, and after what follows it

pub past : {text : List ℕ} {from : Cursor} {p : Result TakenLine Refusal} {line : TakenLine} → p ≡ Ok line → Onward text from p → Past text from line
past {text} {from} e o = go (subst (Onward text from) e o)
  where
    go : {line : TakenLine} → Onward text from (Ok line) → Past text from line
    go (Onward.moved h) = h

pub past_moved : {text : List ℕ} {from : Cursor} {p : Result TakenLine Refusal} {line : TakenLine} → p ≡ Ok line → Onward text from p
    → Advanced text from from.used (Ok line.next)
past_moved {from = from} {line = line} e o = let q = past e o in (let l : from.at ≤ line.next.at = omega (arith, q.later) in Advanced.moved l q.room q.pool)

pub Advanced-sooner : {text : List ℕ} {from to : Cursor} {used : ℕ} → from.at ≤ to.at → {r : Result Cursor Refusal} → Advanced text to used r → Advanced text from used r
Advanced-sooner {from = from} l (Advanced.moved {c' = c} h rm u) = let z : from.at ≤ c.at = omega arith in Advanced.moved z rm u
Advanced-sooner l Advanced.stopped = Advanced.stopped
