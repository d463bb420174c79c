-- Marks that are cleared and set, one at a time. Assumes nothing.
use Prim.Native.Nat.{ℕ, ◌+◌, ◌≤◌, ◌<◌}
use native.Mathlib.Omega.{arith}
use borrow.Rule.Slice.PartMut.{put_mid}
use Rattle.std.proofs.Common.{rules, replicate}
use Rattle.std.specs.List.{between}
use Rattle.std.proofs.lemmas.List.{places}
use Rattle.std.proofs.lemmas.List.Edits.{length-between}
use native.Mathlib.Numerals.{add-one}
use native.Mathlib.Decide.{ℕ_discrete}
use mathlib.Core.Path.{◌≡◌, refl, sym, ap, ◌∙◌, subst}
use mathlib.Core.Bool.{Bool, false, ◌||◌, or-true, or-false, or_assoc, or_comm}
use mathlib.Core.List.{List, [], ◌∷◌, ◌++◌}
use lib.Dec.{eqb}
use lib.ListN.{length, set}
use lib.Seq.{get_or-set_same, get_or-set_other}
use borrow.Author.Tests.{eq-eqb, ne_eqb}
use Rattle.lists.specs.Tab.{tab}
use Rattle.lists.specs.Passing.{add_if}
use Rattle.lists.specs.AtPlaces.{at_places}
use Rattle.lists.proofs.TabLaws.{tab-suc, length-tab}
use Rattle.lists.proofs.AtPlacesLaws.{places_snoc, places_or}
use Rattle.lists.specs.Contains.{contains}
use Rattle.table.specs.Layout.{state_end, work_size, mark_address, code_notes_at, marks_end}
use Rattle.table.specs.View.{cell}
use Rattle.table.specs.Only.{Only}
use Rattle.slot_notes.specs.Noted.{is_noted, NotesOnly}
use Rattle.table.proofs.ViewLaws.{Only-refl, Only-trans, Only-widen, Only-set}
use Rattle.authority_marks.specs.Marked.{is_marked, MarksCleared, Added, MarkedIf, numbers_from, noted_from}

-- CLEARED

-- CLEARED: a part filled with zeros, at any place

module _ (a n : ℕ) (w ys : List ℕ) (h : a + n ≤ length w) (e : ys ≡ replicate n 0) where
  filled_only : Only a (a + n) w (put_mid a n w ys)
  filled_only =
      record {
        size = search (rules, places);
        below = λ i l. search (rules, places);
        above = λ i l. search (rules, places);
      }

  filled_here : (b : ℕ) → b < n → cell (put_mid a n w ys) (a + b) ≡ 0
  filled_here b l = search (rules, places)

-- no mark is left
pub marks_cleared : (w ys : List ℕ) → work_size ≤ length w → ys ≡ replicate (length (between state_end code_notes_at w)) 0 → MarksCleared w (put_mid state_end 256 w ys)
marks_cleared w ys s e =
    record {
      only = Only-widen (omega arith) (omega arith) (filled_only state_end 256 w ys (omega arith) zeros);
      told = λ b h.
          (let at : mark_address b ≡ state_end + b = omega arith in
          ap (λ (x : ℕ). eqb x 1) (ap (cell (put_mid state_end 256 w ys)) at ∙ filled_here state_end 256 w ys (omega arith) zeros b h));
    }
  where
    zeros : ys ≡ replicate 256 0
    zeros = e ∙ ap (λ (n : ℕ). replicate n 0) (length-between w state_end code_notes_at (omega arith))

-- ADDED

contains-append : (xs ys : List ℕ) (b : ℕ) → contains (xs ++ ys) b ≡ (contains xs b || contains ys b)
unfolding contains
contains-append [] ys b = refl
contains-append (x ∷ xs) ys b = ap (λ (t : Bool). eqb x b || t) (contains-append xs ys b) ∙ sym (or_assoc (eqb x b) (contains xs b) (contains ys b))

-- none
pub Added-none : (w : List ℕ) → Added w [] w
unfolding contains
Added-none w = record { only = Only-refl state_end marks_end w; told = λ b h. sym (or-false (is_marked w b)) }

-- some, and then others: the later ones stand before or after
pub Added-after : (w w₁ w₂ : List ℕ) (xs ys : List ℕ) → Added w xs w₁ → Added w₁ ys w₂ → Added w (xs ++ ys) w₂
Added-after w w₁ w₂ xs ys p q =
    record {
      only = Only-trans p.only q.only;
      told = λ b h.
          q.told b h
          ∙ ap (λ (t : Bool). t || contains ys b) (p.told b h)
          ∙ or_assoc (is_marked w b) (contains xs b) (contains ys b)
          ∙ ap (λ (t : Bool). is_marked w b || t) (sym (contains-append xs ys b));
    }

pub Added-before : (w w₁ w₂ : List ℕ) (xs ys : List ℕ) → Added w xs w₁ → Added w₁ ys w₂ → Added w (ys ++ xs) w₂
Added-before w w₁ w₂ xs ys p q =
    let r = Added-after w w₁ w₂ xs ys p q in
    record {
      only = r.only;
      told = λ b h.
          r.told b h
          ∙ ap (λ (t : Bool). is_marked w b || t)
          (contains-append xs ys b ∙ or_comm (contains xs b) (contains ys b) ∙ sym (contains-append ys xs b));
    }

-- the numbers at places that pass one test, and then those at places that pass another
pub Added-or : (p q : ℕ → Bool) (xs : List ℕ) {w w₁ w₂ : List ℕ} → Added w (at_places p xs) w₁ → Added w₁ (at_places q xs) w₂ → Added w (at_places (λ i. p i || q i) xs) w₂
Added-or p q xs {w} {w₁} {w₂} a b =
    let r = Added-after w w₁ w₂ (at_places p xs) (at_places q xs) a b in
    record {
      only = r.only;
      told = λ x h. r.told x h ∙ ap (λ (t : Bool). is_marked w x || t) (contains-append (at_places p xs) (at_places q xs) x ∙ sym (places_or p q xs x));
    }

-- the notes of a code changed, and then some numbers
pub Added-noted : {w w₁ w₂ xs : List ℕ} → NotesOnly code_notes_at w w₁ → Added w₁ xs w₂ → Added w xs w₂
Added-noted {xs = xs} o a =
    record {
      only = Only-trans (Only-widen (omega arith) (omega arith) o) a.only;
      told = λ b h. a.told b h ∙ ap (λ (x : ℕ). eqb x 1 || contains xs b) (o.below (mark_address b) (omega arith));
    }

-- one number
pub Added-one : (w : List ℕ) (v : ℕ) → v < 256 → work_size ≤ length w → Added w (v ∷ []) (set w (mark_address v) 1)
unfolding contains
Added-one w v h s =
    record {
      only = Only-set state_end marks_end w (mark_address v) 1 (omega arith) (omega arith);
      told = λ b k. go b k (ℕ_discrete v b);
    }
  where
    go : (b : ℕ) → b < 256 → Dec (v ≡ b) → eqb (cell (set w (mark_address v) 1) (mark_address b)) 1 ≡ (is_marked w b || (eqb v b || false))
    go b k (yes e) =
        let p : mark_address b ≡ mark_address v = ap mark_address (sym e) in
        ap (λ (x : ℕ). eqb x 1) (ap (cell (set w (mark_address v) 1)) p ∙ get_or-set_same w (mark_address v) 1 0 (omega arith))
        ∙ sym (ap (λ (t : Bool). is_marked w b || (t || false)) (eq-eqb v b e) ∙ or-true (is_marked w b))
    go b k (no d) =
        ap (λ (x : ℕ). eqb x 1) (get_or-set_other w (mark_address v) (mark_address b) 1 0 (λ q. d (omega arith)))
        ∙ sym (ap (λ (t : Bool). is_marked w b || (t || false)) (ne_eqb v b d) ∙ or-false (is_marked w b))

-- the loop over places

module _ (w : List ℕ) (at : ℕ) where
  pub marking_start : Added w (numbers_from w at 0) w
  unfolding tab
  marking_start = Added-none w

  module _ (w₁ : List ℕ) (i v : ℕ) (m : Added w (numbers_from w at i) w₁) (h : at + i < state_end) (ev : v ≡ cell w₁ (at + i)) where
    v_is : v ≡ cell w (at + i)
    v_is = ev ∙ m.only.below (at + i) h

    pub marking_next : (w₂ : List ℕ) → Added w₁ (v ∷ []) w₂ → Added w (numbers_from w at (i + 1)) w₂
    marking_next w₂ a = subst (λ (xs : List ℕ). Added w xs w₂) joined (Added-after w w₁ w₂ (numbers_from w at i) (v ∷ []) m a)
      where
        joined : numbers_from w at i ++ (v ∷ []) ≡ numbers_from w at (i + 1)
        joined =
            ap (λ (x : ℕ). numbers_from w at i ++ (x ∷ [])) v_is
            ∙ sym (tab-suc (λ j. cell w (at + j)) i)
            ∙ ap (numbers_from w at) (sym (add-one i))

-- ADDED BY NOTES

-- a number whose note is set, or is not
module _ (w : List ℕ) (v x : ℕ) where
  pub marked_not : (x ≡ 1 → ⊥) → MarkedIf (eqb x 1) w v w
  marked_not d = record { only = Only-refl state_end code_notes_at w; added = subst (λ (b : Bool). Added w (add_if b v []) w) (sym (ne_eqb x 1 d)) (Added-none w) }

  pub marked_one : x ≡ 1 → {u : ℕ} → u ≡ v → v < 256 → work_size ≤ length w → {w' : List ℕ} → w' ≡ set w (mark_address u) 1 → MarkedIf (eqb x 1) w v w'
  marked_one e {u} eu h s ew =
      subst (MarkedIf (eqb x 1) w v) (sym ew)
      (record {
        only = Only-set state_end code_notes_at w (mark_address u) 1 (omega arith) (omega arith);
        added =
            subst (λ (b : Bool). Added w (add_if b v []) (set w (mark_address u) 1)) (sym (eq-eqb x 1 e))
            (subst (λ (y : ℕ). Added w (y ∷ []) (set w (mark_address u) 1)) eu (Added-one w u (omega arith) s));
      })

-- the loop over places
pub record Noting (w : List ℕ) (at notes n : ℕ) (w' : List ℕ) : Type 0 where
  pub only : Only state_end code_notes_at w w'
  pub added : Added w (noted_from w at notes n) w'

pub Noting-start : (w : List ℕ) (at notes : ℕ) → Noting w at notes 0 w
unfolding tab at_places
Noting-start w at notes = record { only = Only-refl state_end code_notes_at w; added = Added-none w }

module _ {w : List ℕ} {at notes i : ℕ} {w₁ : List ℕ} (m : Noting w at notes i w₁) where
  pub Noting-next : at + i < state_end → code_notes_at ≤ notes → {w₂ : List ℕ} → MarkedIf (eqb (cell w₁ (notes + i)) 1) w₁ (cell w₁ (at + i)) w₂ → Noting w at notes (i + 1) w₂
  Noting-next l above {w₂} k =
      record {
        only = Only-trans m.only k.only;
        added = subst (λ (xs : List ℕ). Added w xs w₂) grown (Added-after w w₁ w₂ (noted_from w at notes i) (add_if (eqb (cell w₁ (notes + i)) 1) (cell w₁ (at + i)) []) m.added k.added);
      }
    where
      grown : noted_from w at notes i ++ add_if (eqb (cell w₁ (notes + i)) 1) (cell w₁ (at + i)) [] ≡ noted_from w at notes (i + 1)
      grown =
          (λ j. noted_from w at notes i ++ add_if (eqb (m.only.above (notes + i) (omega arith) j) 1) (m.only.below (at + i) l j) [])
          ∙ ap (λ (n : ℕ). noted_from w at notes i ++ add_if (is_noted w notes n) (cell w (at + i)) []) (sym (length-tab (λ j. cell w (at + j)) i))
          ∙ sym (places_snoc (is_noted w notes) (numbers_from w at i) (cell w (at + i)))
          ∙ ap (at_places (is_noted w notes)) (sym (tab-suc (λ j. cell w (at + j)) i) ∙ ap (numbers_from w at) (sym (add-one i)))
