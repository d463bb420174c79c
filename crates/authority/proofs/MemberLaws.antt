-- What the members of a group can reach, marked one member after another; and the group's authority, written. Assumes nothing.
use Prim.Native.Nat.{ℕ, suc, ◌+◌, ◌≤◌, ◌<◌}
use native.Mathlib.Omega.{arith}
use native.Mathlib.Numerals.{add-one}
use mathlib.Core.Path.{◌≡◌, refl, sym, ap, ◌∙◌, subst}
use mathlib.Core.Bool.{Bool, true, false, ◌&&◌, ◌||◌, or-false, or_assoc, and_comm}
use mathlib.Core.List.{List, [], ◌∷◌}
use mathlib.Core.Logic.{◌↔◌}
use Rattle.std.specs.Bool.{IsTrue}
use Rattle.std.specs.List.{list_all, AllPass}
use Rattle.std.proofs.lemmas.List.Sums.{AllPass-from_list_all, list_all-from_AllPass}
use lib.Dec.{T}
use lib.ListN.{length, get_or, take}
use lib.Seq.{take_all}
use Rattle.lists.specs.AnyAll.{any, all}
use Rattle.lists.specs.Contains.{contains}
use Rattle.lists.specs.Passing.{passing}
use Rattle.lists.specs.PutAt.{begun}
use Rattle.lists.proofs.AnyAllLaws.{all-In, any-take, any-and}
use Rattle.lists.proofs.InLaws.{In-get_or}
use Rattle.lists.proofs.PassingLaws.{passing_same, passing_few}
use Rattle.machine_rules.specs.declared.Tally.{Tally}
use Rattle.authority_rules.specs.Counted.{usable}
use Rattle.authority_rules.specs.Authority.{is_resource, is_holder, reached_by, holds_by}
use Rattle.authority_rules.specs.Group.{group_holds, group_authority}
use Rattle.table.specs.View.{sheet_in}
use Rattle.table.proofs.ViewLaws.{Only-refl, Only-trans}
use Rattle.machine_state.specs.declared.Top.{Top}
use Rattle.machine_state.specs.Held.{objects_in}
use Rattle.machine_state.proofs.HeldLaws.{objects_count}
use Rattle.machine_steps.specs.Running.{Running}
use Rattle.machine_steps.proofs.FacingLaws.{objects_few}
use Rattle.authority_marks.specs.Marked.{MarksOnly, is_marked, MarksCleared, Added}
use Rattle.authority.specs.Laid.{Prepared, Stored, is_reached, Written}
use Rattle.authority.specs.Members.{held_state, some_reaches, MembersMarked, GroupWritten}
use Rattle.authority.proofs.BelowLaws.{marks_sheet, marks_objects, marks_stored}
use Rattle.authority.proofs.MarkedRunLaws.{marks_state, marks_prepared}
use Rattle.authority.proofs.ReachLaws.{run_stored}

-- WHETHER A LIST IS A GROUP

all_list : (p : ℕ → Bool) (xs : List ℕ) → list_all p xs ≡ all p xs
unfolding all
all_list p [] = refl
all_list p (x ∷ xs) = ap (λ (t : Bool). p x && t) (all_list p xs)

same_truth : (a b : Bool) → (IsTrue a → IsTrue b) → (IsTrue b → IsTrue a) → a ≡ b
same_truth true b f g = sym (f refl)
same_truth false true f g = g refl
same_truth false false f g = refl

pub all_is : (p : ℕ → Bool) (xs : List ℕ) (b : Bool) → (IsTrue b ↔ AllPass p xs) → b ≡ all p xs
all_is p xs b h =
    same_truth b (list_all p xs) (λ e. list_all-from_AllPass p xs (h.0 e)) (λ e. h.1 (AllPass-from_list_all p xs e))
    ∙ all_list p xs

-- MARKED ONE MEMBER AFTER ANOTHER

module _ {w : List ℕ} {t : Top} {k : Tally} (p : Prepared w t k) (hs : List ℕ) where
  pub members_start : MembersMarked w t k (take 0 hs) w
  unfolding any
  members_start = record { only = Only-refl _ _ w; told = λ b l. sym (or-false (is_marked w b)) }

  pub members_end : (i : ℕ) {w' : List ℕ} → MembersMarked w t k (take i hs) w' → length hs ≤ i → MembersMarked w t k hs w'
  members_end i {w'} m l = subst (λ (xs : List ℕ). MembersMarked w t k xs w') (take_all i hs l) m

  module _ (i : ℕ) {w₁ : List ℕ} (m : MembersMarked w t k (take i hs) w₁) (l : i < length hs) {h : ℕ} (e : h ≡ get_or hs i 0) where
    pub member_asks : T (all (is_holder (sheet_in w) (objects_in (sheet_in w) w k.objects)) hs)
        → Prepared w₁ t k × T (is_holder (sheet_in w₁) (objects_in (sheet_in w₁) w₁ k.objects) h)
    member_asks a = (
      marks_prepared w w₁ m.only t k p,
      subst T (sym (λ j. is_holder (marks_sheet w w₁ m.only j) (marks_objects w w₁ m.only k.objects j) (e j)))
          (all-In (is_holder (sheet_in w) (objects_in (sheet_in w) w k.objects)) hs a (In-get_or hs i 0 l)),
    )

    pub member_marked : {w₂ : List ℕ} → Added w₁ (reached_by usable (sheet_in w₁) (held_state w₁ t k) h) w₂ → MembersMarked w t k (take (i + 1) hs) w₂
    member_marked {w₂} a =
        subst (λ (x : ℕ). MembersMarked w t k (take x hs) w₂) (sym (add-one i))
        (record { only = Only-trans m.only a.only; told = told })
      where
        told : (b : ℕ) → b < 256 → is_marked w₂ b ≡ (is_marked w b || some_reaches w t k (take (suc i) hs) b)
        told b u =
            a.told b u
            ∙ (λ j. m.told b u j || contains (reached_by usable (marks_sheet w w₁ m.only j) (marks_state w w₁ m.only t k p.running j) (e j)) b)
            ∙ or_assoc (is_marked w b) (some_reaches w t k (take i hs) b) (contains (reached_by usable (sheet_in w) (held_state w t k) (get_or hs i 0)) b)
            ∙ ap (λ (x : Bool). is_marked w b || x) (sym (any-take (λ x. contains (reached_by usable (sheet_in w) (held_state w t k) x) b) hs i 0 l))

-- WRITTEN

module _ {w : List ℕ} {t : Top} {k : Tally} (p : Prepared w t k) {w₁ : List ℕ} (c : MarksCleared w w₁) where
  -- the members are asked for after the marks are cleared
  pub cleared_asks : (hs : List ℕ) → T (all (is_holder (sheet_in w) (objects_in (sheet_in w) w k.objects)) hs)
      → Prepared w₁ t k × T (all (is_holder (sheet_in w₁) (objects_in (sheet_in w₁) w₁ k.objects)) hs)
  cleared_asks hs a = (
    marks_prepared w w₁ c.only t k p,
    subst T (sym (λ j. all (is_holder (marks_sheet w w₁ c.only j) (marks_objects w w₁ c.only k.objects j)) hs)) a,
  )

  module _ {hs w' : List ℕ} (m : MembersMarked w₁ t k hs w') where
    only : MarksOnly w w'
    only = Only-trans c.only m.only

    pub written_stored : Stored w' k.objects
    written_stored = marks_stored w w' only k.objects (run_stored w t k p.running)

    same_test : (b : ℕ) → b < k.objects → is_reached w' k.objects b ≡ group_holds (sheet_in w) (held_state w t k) hs b
    unfolding group_holds holds_by
    same_test b l =
        (λ i. marked i && is_resource (marks_sheet w w' only i) (marks_objects w w' only k.objects i) b)
        ∙ and_comm (some_reaches w t k hs b) (is_resource (sheet_in w) (objects_in (sheet_in w) w k.objects) b)
        ∙ sym (any-and (is_resource (sheet_in w) (objects_in (sheet_in w) w k.objects) b) (λ h. contains (reached_by usable (sheet_in w) (held_state w t k) h) b) hs)
      where
        few : b < 256
        few = omega (arith, objects_few w t k p.running)

        marked : is_marked w' b ≡ some_reaches w t k hs b
        marked =
            m.told b few
            ∙ (λ i. c.told b few i || any (λ h. contains (reached_by usable (marks_sheet w w₁ c.only i) (marks_state w w₁ c.only t k p.running i) h) b) hs)

    same_list : passing (is_reached w' k.objects) 0 k.objects ≡ group_authority (sheet_in w) (held_state w t k) hs
    unfolding group_authority
    same_list =
        passing_same (is_reached w' k.objects) (group_holds (sheet_in w) (held_state w t k) hs) 0 k.objects (λ b l u. same_test b (omega arith))
        ∙ ap (passing (group_holds (sheet_in w) (held_state w t k) hs) 0) (sym (objects_count (sheet_in w) w k.objects))

    pub group_written : {result result' : List ℕ} {n : ℕ} → Written (is_reached w' k.objects) k.objects result result' n → GroupWritten w t k hs w' result result' n
    group_written {result} x =
        record {
          only = only;
          counted = x.counted ∙ ap length same_list;
          left = x.left ∙ ap (λ (ys : List ℕ). begun ys result) same_list;
        }

module _ (w : List ℕ) (t : Top) (k : Tally) (r : Running w t k) where
  -- a group's authority has at most 256 numbers
  pub group_few : (hs : List ℕ) → length (group_authority (sheet_in w) (held_state w t k) hs) ≤ 256
  unfolding group_authority
  group_few hs = omega (arith, passing_few (group_holds (sheet_in w) (held_state w t k) hs) 0 (length (held_state w t k).objects), objects_count (sheet_in w) w k.objects, objects_few w t k r)

-- how many were written is a 16-bit number
pub count_small : {w : List ℕ} {t : Top} {k : Tally} → Prepared w t k → {hs w' result result' : List ℕ} {c : ℕ} → GroupWritten w t k hs w' result result' c → c < 65536
count_small {w} {t} {k} p {hs} a = omega (arith, a.counted, group_few w t k p.running hs)
