-- Entries written one holder after another. Assumes nothing.
use Prim.Native.Nat.{ℕ, suc, ◌+◌, ◌-◌, ◌*◌, ◌≤◌, ◌<◌}
use native.Mathlib.Omega.{arith}
use native.Mathlib.Numerals.{add-one}
use mathlib.Core.Path.{◌≡◌, refl, sym, ap, ◌∙◌, subst}
use mathlib.Core.Bool.{Bool, true, false}
use mathlib.Core.List.{List, [], ◌∷◌, ◌++◌, map}
use mathlib.Core.Logic.{◌⊎◌, inl, inr}
use lib.Dec.{T, eqb, eqb→eq}
use lib.ListN.{length, set, take, drop, length-append, length-drop, take-append-drop}
use lib.Seq.{length-take-le}
use borrow.Rule.Slice.PartMut.{put_mid}
use Rattle.lists.specs.AnyAll.{all}
use Rattle.lists.proofs.Tests.{and_intro, or_cases, or_right, true→T}
use Rattle.machine_rules.specs.declared.Tally.{Tally}
use Rattle.lists.specs.Passing.{add_if, passing}
use Rattle.authority_rules.specs.Authority.{main_holder, is_resource, is_holder, authority}
use Rattle.authority_rules.specs.Report.{Holding, holding_of, holders}
use Rattle.authority_rules.specs.Group.{group_authority}
use Rattle.authority_rules.proofs.AuthorityLaws.{resource_below}
use Rattle.authority_rules.proofs.GroupLaws.{authority_one}
use Rattle.table.specs.View.{sheet_in}
use Rattle.table.proofs.ViewLaws.{Only-refl, Only-trans}
use Rattle.machine_state.specs.declared.Top.{Top}
use Rattle.machine_state.proofs.HeldLaws.{objects_count}
use Rattle.machine_steps.specs.Running.{Running}
use Rattle.machine_steps.proofs.FacingLaws.{objects_few}
use Rattle.lists.specs.PutAt.{begun, put_at}
use Rattle.lists.proofs.PutAtLaws.{put_put}
use Rattle.authority.specs.Laid.{Prepared}
use Rattle.authority.specs.Members.{held_state, GroupWritten}
use Rattle.authority.specs.Every.{entry_of, entries, every_size, EntriesWritten, if_resource, EveryWritten}
use Rattle.authority.proofs.BelowLaws.{marks_sheet}
use Rattle.authority.proofs.MarkedRunLaws.{marks_state, marks_prepared}
use Rattle.lists.proofs.PassingLaws.{passing_few, passing_snoc}
use Rattle.authority.proofs.MemberLaws.{group_few}
use Rattle.authority.proofs.PutLaws.{entry_put, entries-append, entries_one, entries_few}

-- WHAT A HOLDER'S ENTRY TAKES

module _ (w : List ℕ) (t : Top) (k : Tally) (r : Running w t k) where
  resource_small : (b : ℕ) → T (is_resource (sheet_in w) (held_state w t k).objects b) → b < 256
  resource_small b u = omega (arith, resource_below (sheet_in w) (held_state w t k).objects b u, objects_count (sheet_in w) w k.objects, objects_few w t k r)

  pub holder_small : (h : ℕ) → T (is_holder (sheet_in w) (held_state w t k).objects h) → h < 65536
  holder_small h u = go (or_cases (eqb h main_holder) (is_resource (sheet_in w) (held_state w t k).objects h) u)
    where
      go : T (eqb h main_holder) ⊎ T (is_resource (sheet_in w) (held_state w t k).objects h) → h < 65536
      go (inl e) = omega (arith, eqb→eq h main_holder e)
      go (inr v) = omega (arith, resource_small h v)

  authority_few : (h : ℕ) → length (authority (sheet_in w) (held_state w t k) h) ≤ 256
  authority_few h = omega (arith, ap length (authority_one (sheet_in w) (held_state w t k) h), group_few w t k r (h ∷ []))

-- what writing one holder's authority asks for, by a list of that holder
module _ (w : List ℕ) (t : Top) (k : Tally) (p : Prepared w t k) where
  pub entry_asks : {h h' : ℕ} → h' ≡ h → T (is_holder (sheet_in w) (held_state w t k).objects h) → (at : ℕ) (result : List ℕ) → at + 258 ≤ length result
      → Prepared w t k × T (all (is_holder (sheet_in w) (held_state w t k).objects) (h' ∷ [])) × (256 ≤ length (take (length result - (at + 2)) (drop (at + 2) result)))
  unfolding all
  entry_asks {h} {h'} e u at result l = (
    p,
    and_intro (is_holder (sheet_in w) (held_state w t k).objects h') true (subst (λ (x : ℕ). T (is_holder (sheet_in w) (held_state w t k).objects x)) (sym e) u) tt,
    (let d = length-drop (at + 2) result in let q = length-take-le (length result - (at + 2)) (drop (at + 2) result) (omega arith) in omega arith),
  )

-- ENTRIES WRITTEN

module _ (w : List ℕ) (t : Top) (k : Tally) where
  pub none_written : (at : ℕ) (result : List ℕ) → EntriesWritten w t k [] w at result result at
  unfolding entries
  none_written at result = record { only = Only-refl _ _ w; counted = omega arith; left = sym (take-append-drop at result) }

  -- one holder's entry, its numbers written through the part after its head
  pub entry_written : (r : Running w t k) (h : ℕ) (w' : List ℕ) (at : ℕ) (result : List ℕ) → at + 2 ≤ length result → (c : ℕ) (ys : List ℕ) (h' : ℕ)
      → GroupWritten w t k (h' ∷ []) w' (take (length result - (at + 2)) (drop (at + 2) result)) ys c → (c' : ℕ) → h' ≡ h → c' ≡ c
      → EntriesWritten w t k (h ∷ []) w' at result (set (set (put_mid (at + 2) (length result - (at + 2)) result ys) at h') (at + 1) c') (at + 2 + c)
  entry_written r h w' at result l c ys h' a c' eh ec =
      record {
        only = a.only;
        counted = (let n : length (entry_of one) ≡ suc (suc (length one.held)) = refl in omega (arith, counted)) ∙ ap (λ (xs : List ℕ). at + length xs) (sym (entries_one one));
        left =
            (λ i. set (set (put_mid (at + 2) (length result - (at + 2)) result ((a.left ∙ ap (λ (xs : List ℕ). begun xs (take (length result - (at + 2)) (drop (at + 2) result))) held) i)) at (eh i)) (at + 1) ((ec ∙ counted) i))
            ∙ entry_put result one.held at h (length one.held) l
            ∙ ap (λ (xs : List ℕ). put_at at xs result) (sym (entries_one one));
      }
    where
      one : Holding
      one = holding_of (sheet_in w) (held_state w t k) h

      held : group_authority (sheet_in w) (held_state w t k) (h' ∷ []) ≡ one.held
      held = ap (λ (x : ℕ). group_authority (sheet_in w) (held_state w t k) (x ∷ [])) eh ∙ authority_one (sheet_in w) (held_state w t k) h

      counted : c ≡ length one.held
      counted = a.counted ∙ ap length held

  -- entries, and then others from where they end
  module _ (r : Running w t k) (hs : List ℕ) (w₁ : List ℕ) (at : ℕ) (result result₁ : List ℕ) (at₁ : ℕ) (a : EntriesWritten w t k hs w₁ at result result₁ at₁) where
    pub then_written : (gs : List ℕ) (w₂ result₂ : List ℕ) (at₂ : ℕ) → at ≤ length result → EntriesWritten w₁ t k gs w₂ at₁ result₁ result₂ at₂ → EntriesWritten w t k (hs ++ gs) w₂ at result result₂ at₂
    then_written gs w₂ result₂ at₂ l b =
        record {
          only = Only-trans a.only b.only;
          counted =
              b.counted
              ∙ (λ i. a.counted i + length (entries (map (same i) gs)))
              ∙ (let n = length-append (entries (map f hs)) (entries (map f gs)) in let m : at + length (entries (map f hs)) + length (entries (map f gs)) ≡ at + length (entries (map f hs) ++ entries (map f gs)) = omega arith in m)
              ∙ ap (λ (xs : List ℕ). at + length xs) (sym joined);
          left =
              b.left
              ∙ (λ i. put_at at₁ (entries (map (same i) gs)) (a.left i))
              ∙ put_put at (entries (map f hs)) (entries (map f gs)) result at₁ l a.counted
              ∙ ap (λ (xs : List ℕ). put_at at xs result) (sym joined);
        }
      where
        f : ℕ → Holding
        f = holding_of (sheet_in w) (held_state w t k)

        same : holding_of (sheet_in w₁) (held_state w₁ t k) ≡ f
        same i = holding_of (marks_sheet w w₁ a.only i) (marks_state w w₁ a.only t k r i)

        map-append : (xs : List ℕ) → map f (xs ++ gs) ≡ map f xs ++ map f gs
        map-append [] = refl
        map-append (x ∷ xs) = ap (λ (z : List Holding). f x ∷ z) (map-append xs)

        joined : entries (map f (hs ++ gs)) ≡ entries (map f hs) ++ entries (map f gs)
        joined = ap entries (map-append hs) ∙ entries-append (map f hs) (map f gs)

    pub written_few : at₁ ≤ at + 258 * length hs
    written_few = omega (arith, a.counted, entries_few (holding_of (sheet_in w) (held_state w t k)) hs (authority_few w t k r))

    pub written_size : at + 258 * length hs ≤ length result → length result₁ ≡ length result
    written_size l =
        ap length a.left
        ∙ length-append (take at result) (begun es (drop at result))
        ∙ (let p = length-take-le at result (omega arith) in let q = length-append es (drop (length es) (drop at result)) in let d = length-drop (length es) (drop at result) in let d₂ = length-drop at result in
        let few = entries_few (holding_of (sheet_in w) (held_state w t k)) hs (authority_few w t k r) in omega arith)
      where
        es : List ℕ
        es = entries (map (holding_of (sheet_in w) (held_state w t k)) hs)

-- ONE OBJECT AFTER ANOTHER

module _ (w : List ℕ) (t : Top) (k : Tally) (b : ℕ) (q : Bool) (e : q ≡ is_resource (sheet_in w) (held_state w t k).objects b) where
  pub object_passed : q ≡ false → (at : ℕ) (result : List ℕ) → EntriesWritten w t k (if_resource w t k b) w at result result at
  object_passed p at result = subst (λ (x : Bool). EntriesWritten w t k (add_if x b []) w at result result at) (sym p ∙ e) (none_written w t k at result)

  pub object_holder : q ≡ true → T (is_holder (sheet_in w) (held_state w t k).objects b)
  object_holder p = or_right (eqb b main_holder) (is_resource (sheet_in w) (held_state w t k).objects b) (true→T _ (sym e ∙ p))

  pub object_written : q ≡ true → (w' : List ℕ) (at : ℕ) (result result' : List ℕ) (at' : ℕ) → EntriesWritten w t k (b ∷ []) w' at result result' at' → EntriesWritten w t k (if_resource w t k b) w' at result result' at'
  object_written p w' at result result' at' a = subst (λ (x : Bool). EntriesWritten w t k (add_if x b []) w' at result result' at') (sym p ∙ e) a

-- the resources among the first b objects
abbrev pub resources : List ℕ → Top → Tally → ℕ → List ℕ
resources w t k b = passing (is_resource (sheet_in w) (held_state w t k).objects) 0 b

pub first_written : (w : List ℕ) (t : Top) (k : Tally) (at : ℕ) (result : List ℕ) → EntriesWritten w t k (resources w t k 0) w at result result at
unfolding passing
first_written w t k at result = none_written w t k at result

-- main's entry, and then one object after another
module _ (w : List ℕ) (t : Top) (k : Tally) (p : Prepared w t k) (result : List ℕ) (size : every_size ≤ length result) (w₁ result₁ : List ℕ) (at₁ : ℕ) (m : EntriesWritten w t k (main_holder ∷ []) w₁ 0 result result₁ at₁)
    (w₂ result₂ : List ℕ) (at₂ b : ℕ) (a : EntriesWritten w₁ t k (resources w₁ t k b) w₂ at₁ result₁ result₂ at₂) (l : b ≤ k.objects) where
  p₁ : Prepared w₁ t k
  p₁ = marks_prepared w w₁ m.only t k p

  head : at₁ ≤ 258
  head = written_few w t k p.running (main_holder ∷ []) w₁ 0 result result₁ at₁ m

  size₁ : length result₁ ≡ length result
  size₁ = written_size w t k p.running (main_holder ∷ []) w₁ 0 result result₁ at₁ m (omega arith)

  few : length (resources w₁ t k b) ≤ b
  few = passing_few (is_resource (sheet_in w₁) (held_state w₁ t k).objects) 0 b

  pub next_size : length result₂ ≡ length result
  next_size = written_size w₁ t k p₁.running (resources w₁ t k b) w₂ at₁ result₁ result₂ at₂ a (omega (arith, few, head, size₁, objects_few w t k p.running)) ∙ size₁

  pub next_asks : b < k.objects → Prepared w₂ t k × (at₂ + 258 ≤ every_size) × (every_size ≤ length result₂)
  next_asks h = (
    marks_prepared w₁ w₂ a.only t k p₁,
    omega (arith, few, head, objects_few w t k p.running, written_few w₁ t k p₁.running (resources w₁ t k b) w₂ at₁ result₁ result₂ at₂ a),
    omega (arith, next_size),
  )

  pub next_written : (w₃ result₃ : List ℕ) (at₃ : ℕ) → EntriesWritten w₂ t k (if_resource w₂ t k b) w₃ at₂ result₂ result₃ at₃ → EntriesWritten w₁ t k (resources w₁ t k (b + 1)) w₃ at₁ result₁ result₃ at₃
  next_written w₃ result₃ at₃ c =
      subst (λ (hs : List ℕ). EntriesWritten w₁ t k hs w₃ at₁ result₁ result₃ at₃) (sym more)
      (then_written w₁ t k p₁.running (resources w₁ t k b) w₂ at₁ result₁ result₂ at₂ a (if_resource w₂ t k b) w₃ result₃ at₃ (omega (arith, head, size₁)) c)
    where
      more : resources w₁ t k (b + 1) ≡ resources w₁ t k b ++ if_resource w₂ t k b
      more =
          ap (resources w₁ t k) (add-one b)
          ∙ passing_snoc (is_resource (sheet_in w₁) (held_state w₁ t k).objects) 0 b
          ∙ (let z : 0 + b ≡ b = omega arith in ap (λ (x : ℕ). resources w₁ t k b ++ add_if (is_resource (sheet_in w₁) (held_state w₁ t k).objects x) x []) z)
          ∙ sym (λ i. resources w₁ t k b ++ add_if (is_resource (marks_sheet w₁ w₂ a.only i) (marks_state w₁ w₂ a.only t k p₁.running i).objects b) b [])

  pub every_written : k.objects ≤ b → EveryWritten w t k w₂ result result₂ at₂
  every_written end =
      subst (λ (hs : List ℕ). EntriesWritten w t k (main_holder ∷ hs) w₂ 0 result result₂ at₂) all
      (then_written w t k p.running (main_holder ∷ []) w₁ 0 result result₁ at₁ m (resources w₁ t k b) w₂ result₂ at₂ (omega arith) a)
    where
      all : resources w₁ t k b ≡ passing (is_resource (sheet_in w) (held_state w t k).objects) 0 (length (held_state w t k).objects)
      all =
          (λ i. passing (is_resource (marks_sheet w w₁ m.only i) (marks_state w w₁ m.only t k p.running i).objects) 0 b)
          ∙ (let n : b ≡ length (held_state w t k).objects = omega (arith, objects_count (sheet_in w) w k.objects) in ap (passing (is_resource (sheet_in w) (held_state w t k).objects) 0) n)

-- all entries fit
pub every_few : (w : List ℕ) (t : Top) (k : Tally) → Running w t k → (w' result result' : List ℕ) (n : ℕ) → EveryWritten w t k w' result result' n → n ≤ every_size
every_few w t k r w' result result' n a =
    omega (arith, written_few w t k r (holders (sheet_in w) (held_state w t k)) w' 0 result result' n a, passing_few (is_resource (sheet_in w) (held_state w t k).objects) 0 (length (held_state w t k).objects), objects_count (sheet_in w) w k.objects, objects_few w t k r)
