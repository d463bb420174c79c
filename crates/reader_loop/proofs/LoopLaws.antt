-- Reading many items by a loop: a law for each turn, for any item. Assumes nothing.
use Prim.Native.Nat.{ℕ, suc, ◌+◌, ◌-◌, ◌≤◌, ◌<◌}
use native.Mathlib.Omega.{arith}
use native.Mathlib.Numerals.{add-one}
use mathlib.Core.Path.{◌≡◌, sym, ap, ◌∙◌, subst}
use mathlib.Core.List.{List, [], ◌∷◌, ◌++◌}
use lib.ListN.{drop}
use Rattle.lists.specs.Tab.{tab}
use Rattle.lists.proofs.TabLaws.{tab-suc}
use Rattle.sheet_rules.specs.declared.Reason.{Reason}
use Rattle.sheet_rules.specs.Lines.{Line, lines_of}
use Rattle.sheet_rules.specs.Reader.{got, refused, Reader, and_then, many}
use Rattle.table.specs.Only.{Only}
use Rattle.table.proofs.ViewLaws.{Only-refl, Only-trans, Only-widen}
use Rattle.line_reader.specs.declared.Cursor.{Cursor}
use Rattle.line_reader.specs.Told.{Room, read_from, got_at, read_told, Advanced}
use Rattle.reader_loop.specs.Items.{ItemRead, Items, ItemsRead}
use Rattle.std.specs.declared.result.Result.{Result}
use Rattle.std.specs.declared.result.Result.TheVariants.{Ok, Err}
use Rattle.sheet_rules.specs.declared.Refusal.{Refusal}
use Rattle.line_reader.proofs.ExitLaws.{Passes, passed_on}

-- what it means to have moved on
pub record Moved (text : List ℕ) (from : Cursor) (used : ℕ) (to : Cursor) : Type 0 where
  pub later : from.at ≤ to.at
  pub room : Room text to
  pub pool : to.used ≡ used

pub Advanced-Moved : {text : List ℕ} {from to : Cursor} {used : ℕ} → Advanced text from used (Ok to) → Moved text from used to
Advanced-Moved (Advanced.moved l r u) = record { later = l; room = r; pool = u }

pub Moved-on : {text : List ℕ} {from to : Cursor} {used : ℕ} {r : Result Cursor Refusal} → r ≡ Ok to → Advanced text from used r → Moved text from used to
Moved-on {text} {from} {used = used} e a = Advanced-Moved (subst (Advanced text from used) e a)

-- k items more, where the first is read or refused
many-got : {A : Type 0} (k : ℕ) (item : List A → Reader A) (before : List A) (ls : List Line) (n : ℕ) (a : A) (ls' : List Line) (n' : ℕ)
    → got a ls' n' ≡ item before ls n → many (suc k) item before ls n ≡ many k item (before ++ (a ∷ [])) ls' n'
unfolding many and_then
many-got k item before ls n a ls' n' e = ap (λ x. and_then x (λ a. many k item (before ++ (a ∷ [])))) (sym e)

many-refused : {A : Type 0} (k : ℕ) (item : List A → Reader A) (before : List A) (ls : List Line) (n : ℕ) (q : Reason) (n' : ℕ)
    → refused q n' ≡ item before ls n → many (suc k) item before ls n ≡ refused q n'
unfolding many and_then
many-refused k item before ls n q n' e = ap (λ x. and_then x (λ a. many k item (before ++ (a ∷ [])))) (sym e)

-- what holds where the loop stands: j items are in the buffer, and reading on from here is reading from the start
pub record Going {A : Type 0} (text : List ℕ) (x : Items A) (count : ℕ) (from : Cursor) (w₀ w : List ℕ) (j : ℕ) (here : Cursor) : Type 0 where
  pub within : j ≤ count
  pub only : Only x.lo x.hi w₀ w
  pub room : Room text here
  pub later : from.at ≤ here.at
  pub pool : here.used ≡ x.used w j
  pub same : read_from text here (many (count - j) x.item (tab (x.value w) j)) ≡ read_from text from (many count x.item [])

pub Going-start : {A : Type 0} {text : List ℕ} {x : Items A} {count : ℕ} {from : Cursor} {w : List ℕ} → Room text from → from.used ≡ x.used w 0 → Going text x count from w w 0 from
unfolding tab
Going-start {text = text} {x = x} {from = from} {w = w} r u =
    record {
      within = omega arith;
      only = Only-refl x.lo x.hi w;
      room = r;
      later = omega arith;
      pool = u;
      same = ap (λ (k : ℕ). read_from text from (many k x.item [])) (omega arith);
    }

-- a turn: item j was read within the loop's part of the buffer, and the items before it are as they were
pub record Turn {A : Type 0} (text : List ℕ) (x : Items A) (w : List ℕ) (j : ℕ) (here : Cursor) (w' : List ℕ) (r : Result Cursor Refusal) : Type 0 where
  pub read : ItemRead text (x.item (tab (x.value w) j)) (λ v. x.value v j) (λ v. x.used v (j + 1)) x.lo x.hi here w w' r
  pub kept : tab (x.value w') j ≡ tab (x.value w) j

-- an item that has no instructions, read within a wider part of the buffer
pub read_within : {A : Type 0} {text : List ℕ} {item : Reader A} {value : List ℕ → A} {lo lo' hi hi' used : ℕ} {here : Cursor} {w w' : List ℕ} {r : Result Cursor Refusal} → lo' ≤ lo → hi ≤ hi'
    → here.used ≡ used → ItemRead text item value (λ v. here.used) lo hi here w w' r → ItemRead text item value (λ v. used) lo' hi' here w w' r
read_within {text = text} {here = here} {r = r} l h u m =
    record { told = m.told; only = Only-widen l h m.only; advanced = subst (λ (n : ℕ). Advanced text here n r) u m.advanced }

module _ {A : Type 0} {text : List ℕ} {x : Items A} {count : ℕ} {from : Cursor} {w₀ w : List ℕ} {j : ℕ} {here : Cursor} (g : Going text x count from w₀ w j here) where
  one_more : j < count → count - j ≡ suc (count - (j + 1))
  one_more l = omega arith

  pub Going-next : j < count → {w' : List ℕ} {r : Result Cursor Refusal} {to : Cursor} → r ≡ Ok to → Turn text x w j here w' r → Going text x count from w₀ w' (j + 1) to
  Going-next l {w'} {r} {to} e t =
      let moved = Moved-on e t.read.advanced in
      record {
        within = omega arith;
        only = Only-trans g.only t.read.only;
        room = moved.room;
        later = omega (arith, g.later, moved.later);
        pool = moved.pool;
        same =
            ap (λ (xs : List A). read_from text to (many (count - (j + 1)) x.item xs))
            (ap (tab (x.value w')) (add-one j) ∙ tab-suc (x.value w') j ∙ ap (λ (xs : List A). xs ++ (x.value w' j ∷ [])) t.kept)
            ∙ sym
            (many-got (count - (j + 1)) x.item (tab (x.value w) j) (lines_of (drop here.at text)) here.line (x.value w' j) (lines_of (drop to.at text)) to.line
            (ap (λ (y : Result Cursor Refusal). read_told text y (x.value w' j)) (sym e) ∙ t.read.told))
            ∙ ap (λ (k : ℕ). read_from text here (many k x.item (tab (x.value w) j))) (sym (one_more l))
            ∙ g.same;
      }

  pub going_stop : j < count → {w' : List ℕ} {r : Result Cursor Refusal} {q : Refusal} → r ≡ Err q → Turn text x w j here w' r
      → {s : Result Cursor Refusal} → Passes s q → ItemsRead text x count from w₀ w' s
  going_stop l {w'} {r} {q} e t h =
      passed_on (ItemsRead text x count from w₀ w') h
      (record {
        told =
            sym
            (many-refused (count - (j + 1)) x.item (tab (x.value w) j) (lines_of (drop here.at text)) here.line q.reason q.line
            (ap (λ (y : Result Cursor Refusal). read_told text y (x.value w' j)) (sym e) ∙ t.read.told))
            ∙ ap (λ (k : ℕ). read_from text here (many k x.item (tab (x.value w) j))) (sym (one_more l))
            ∙ g.same;
        only = Only-trans g.only t.read.only;
        advanced = Advanced.stopped;
      })

  pub going_end : count ≤ j → ItemsRead text x count from w₀ w (Ok here)
  unfolding many
  going_end l =
      let e : j ≡ count = omega (arith, g.within) in
      let z : count - j ≡ 0 = omega arith in
      record {
        told =
            ap (λ (k : ℕ). got_at text here (tab (x.value w) k)) (sym e)
            ∙ sym (ap (λ (k : ℕ). read_from text here (many k x.item (tab (x.value w) j))) z)
            ∙ g.same;
        only = g.only;
        advanced = Advanced.moved g.later g.room (g.pool ∙ ap (x.used w) e);
      }
