-- Marking leaves the state as it is; and the loop over the frames from the bottom up. Assumes nothing.
use Prim.Native.Nat.{ℕ, suc, ◌+◌, ◌<◌}
use native.Mathlib.Omega.{arith}
use native.Mathlib.Numerals.{add-one}
use mathlib.Core.Path.{◌≡◌, refl, sym, ap, ◌∙◌, subst}
use mathlib.Core.List.{List, ◌++◌}
use lib.Dec.{eqb}
use lib.ListN.{length}
use Rattle.sheet_rules.specs.Sheet.{Sheet}
use Rattle.authority_rules.specs.Counted.{waiting_slots}
use Rattle.authority_rules.specs.Authority.{frame_holder, holder_of, slots_if, slots_of}
use Rattle.table.specs.Layout.{object_address, slot_address, state_end}
use Rattle.table.specs.View.{sheet_in}
use Rattle.table.specs.Only.{Only}
use Rattle.table.proofs.SheetLaws.{only_sheet, only_whole}
use Rattle.table.proofs.ViewLaws.{SameTable}
use Rattle.machine_state.specs.declared.Top.{Top}
use Rattle.machine_state.specs.Held.{objects_in, own_from, frame_from, top_in, below_in}
use Rattle.machine_state.proofs.HeldLaws.{objects_same, frame_same, top_same}
use Rattle.authority_marks.specs.Marked.{Added}
use Rattle.authority_marks.proofs.MarkLaws.{Added-none, Added-before}
use Rattle.authority.specs.Laid.{Stored, Slots, FrameMarked, Below, BelowMarked}

-- what marking, as any change above the state, leaves as it is

module _ (w w' : List ℕ) {hi : ℕ} (o : Only state_end hi w w') where
  table : SameTable w w'
  table i h = o.below i (omega arith)

  pub marks_sheet : sheet_in w' ≡ sheet_in w
  marks_sheet = only_sheet o (omega arith)

  pub marks_objects : (n : ℕ) → objects_in (sheet_in w') w' n ≡ objects_in (sheet_in w) w n
  marks_objects n = ap (λ (s : Sheet). objects_in s w' n) marks_sheet ∙ objects_same (sheet_in w) w w' n (λ i l u. o.below i (omega arith))

  pub marks_frame : (f : ℕ) (t : Top) → frame_from w' f t ≡ frame_from w f t
  marks_frame f t = frame_same w w' table f t (λ i l u. o.below i (omega arith))

  pub marks_top : (f : ℕ) → top_in w' f ≡ top_in w f
  marks_top f = top_same w w' table f (λ i l u. o.below i (omega arith))

  pub marks_stored : (n : ℕ) → Stored w n → Stored w' n
  marks_stored n s =
      record {
        whole = only_whole o (omega arith) s.whole;
        few = s.few;
        forms = λ i h. (let c = o.below (object_address i) (omega arith) in let l : length (sheet_in w').forms ≡ length (sheet_in w).forms = ap (λ (x : Sheet). length x.forms) marks_sheet in omega (arith, s.forms i h, c, l));
      }

  pub marks_slots : (f n : ℕ) → Slots w f n → Slots w' f n
  marks_slots f n s =
      record { few = s.few; small = λ v h. subst (λ (x : ℕ). x < 256) (sym (o.below (slot_address f v) (omega arith))) (s.small v h) }

-- one frame more, as the rules have it

held_suc : (w : List ℕ) (n f : ℕ)
    → frame_holder (sheet_in w) (objects_in (sheet_in w) w n) (own_from (top_in w f).own) (holder_of (sheet_in w) (objects_in (sheet_in w) w n) (below_in w f))
    ≡ holder_of (sheet_in w) (objects_in (sheet_in w) w n) (below_in w (suc f))
unfolding holder_of below_in
held_suc w n f = refl

slots_suc : (w : List ℕ) (n h f : ℕ)
    → slots_if (eqb (holder_of (sheet_in w) (objects_in (sheet_in w) w n) (below_in w (suc f))) h) (waiting_slots (frame_from w f (top_in w f))) ++ slots_of waiting_slots (sheet_in w) (objects_in (sheet_in w) w n) h (below_in w f)
    ≡ slots_of waiting_slots (sheet_in w) (objects_in (sheet_in w) w n) h (below_in w (suc f))
unfolding slots_of below_in
slots_suc w n h f = refl

-- the loop

pub below_start : (w : List ℕ) (n h : ℕ) → BelowMarked w n h 0 w 256
unfolding holder_of slots_of below_in
below_start w n h = record { holder = refl; marked = Added-none w }

module _ (w : List ℕ) (n h d : ℕ) (s : Stored w n) (small : d < 64) (slots : Below w d) (w₁ : List ℕ) (f r : ℕ) (b : BelowMarked w n h f w₁ r) (l : f < d) where
  pub below_stored : Stored w₁ n
  below_stored = marks_stored w w₁ b.marked.only n s

  pub below_small : f < 64
  below_small = omega arith

  module _ (t : Top) (et : t ≡ top_in w₁ f) where
    t_is : t ≡ top_in w f
    t_is = et ∙ marks_top w w₁ b.marked.only f

    pub below_slots : Slots w₁ f t.filled
    below_slots = marks_slots w w₁ b.marked.only f t.filled (subst (λ (x : Top). Slots w f x.filled) (sym t_is) (slots f l))

    pub below_next : (w₂ : List ℕ) (r₂ : ℕ) → FrameMarked w₁ n f t r h w₂ r₂ → BelowMarked w n h (f + 1) w₂ r₂
    below_next w₂ r₂ m = subst (λ (x : ℕ). BelowMarked w n h x w₂ r₂) (sym (add-one f)) (record { holder = holder; marked = marked })
      where
        holder : r₂ ≡ holder_of (sheet_in w) (objects_in (sheet_in w) w n) (below_in w (suc f))
        holder =
            m.holder
            ∙ (λ i. frame_holder (marks_sheet w w₁ b.marked.only i) (marks_objects w w₁ b.marked.only n i) (own_from (t_is i).own) (b.holder i))
            ∙ held_suc w n f

        marked : Added w (slots_of waiting_slots (sheet_in w) (objects_in (sheet_in w) w n) h (below_in w (suc f))) w₂
        marked =
            subst (λ (xs : List ℕ). Added w xs w₂)
            ((λ i. slots_if (eqb (holder i) h) (waiting_slots (marks_frame w w₁ b.marked.only f (t_is i) i)) ++ slots_of waiting_slots (sheet_in w) (objects_in (sheet_in w) w n) h (below_in w f)) ∙ slots_suc w n h f)
            (Added-before w w₁ w₂ (slots_of waiting_slots (sheet_in w) (objects_in (sheet_in w) w n) h (below_in w f)) (slots_if (eqb r₂ h) (waiting_slots (frame_from w₁ f t))) b.marked m.marked)
