-- What reading an item, or many, into the work buffer ensures: what the answer and the buffer tell is what the rule's reader
-- gives; the buffer has changed in its part alone; and reading stands further on. Stands on reading and on the table.
use Rattle.std.specs.Prelude.{ℕ, ◌≡◌, List, []}
use Rattle.lists.specs.Tab.{tab}
use Rattle.sheet_rules.specs.Reader.{Reader, many}
use Rattle.table.specs.Only.{Only}
use Rattle.line_reader.specs.declared.Cursor.{Cursor}
use Rattle.line_reader.specs.Told.{read_from, read_told, Advanced}
use Rattle.std.specs.declared.result.Result.{Result}
use Rattle.sheet_rules.specs.declared.Refusal.{Refusal}

-- one item: `item` reads it, `value` is what the buffer then holds of it, and `used` how many instructions were then read; only numbers
-- from lo to hi have changed
pub record ItemRead {A : Type 0} (text : List ℕ) (item : Reader A) (value : List ℕ → A) (used : List ℕ → ℕ) (lo hi : ℕ) (from : Cursor) (w w' : List ℕ) (r : Result Cursor Refusal) : Type 0 where
  pub told : read_told text r (value w') ≡ read_from text from item
  pub only : Only lo hi w w'
  pub advanced : Advanced text from (used w') r

-- items of a list: the rule's reader of one, with those before it in hand; what the buffer holds of item j; how many instructions were
-- read once j items are in the buffer; and the part of the buffer that they have
pub record Items (A : Type 0) : Type 0 where
  pub item : List A → Reader A
  pub value : List ℕ → ℕ → A
  pub used : List ℕ → ℕ → ℕ
  pub lo : ℕ
  pub hi : ℕ

-- many items, read
abbrev pub ItemsRead : {A : Type 0} → List ℕ → Items A → (count : ℕ) → Cursor → (w w' : List ℕ) → Result Cursor Refusal → Type 0
ItemsRead text x count from w w' r =
    ItemRead text (many count x.item []) (λ v. tab (x.value v) count) (λ v. x.used v count) x.lo x.hi from w w' r
