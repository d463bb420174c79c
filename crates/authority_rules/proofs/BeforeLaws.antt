-- Each set of today lies within the one of before order 6 (document 02, order 6): for every sheet, every state and every number as a
-- holder, so for every accepted text and every n; and P shows that it can be smaller. Assumes nothing.
use Prim.Native.Nat.{ℕ}
use mathlib.Core.Path.{◌≡◌, refl}
use mathlib.Core.List.{List, [], ◌∷◌, ◌++◌}
use mathlib.Core.Bool.{Bool, true, false, cond, ◌||◌}
use mathlib.Core.Logic.{◌⊎◌, inl, inr}
use lib.Dec.{T, eqb}
use Rattle.lists.specs.In.{In, here, there}
use Rattle.lists.specs.Contains.{contains}
use Rattle.lists.specs.Passing.{passing}
use Rattle.lists.proofs.AtPlacesLaws.{places_in}
use Rattle.lists.proofs.ContainsLaws.{contains-In, In-contains}
use Rattle.lists.proofs.InLaws.{In-left, In-right, In-cases}
use Rattle.lists.proofs.Tests.{and_left, and_right, and_intro}
use Rattle.sheet_rules.specs.Sheet.{Sheet, code_names}
use Rattle.sheet_rules.specs.Samples.{text_of, P}
use Rattle.sheet_rules.specs.Reading.{meaning}
use Rattle.machine_rules.specs.State.{Object, Frame, State, object_at}
use Rattle.machine_rules.specs.Steps.{run}
use Rattle.authority_rules.specs.Counted.{Counting, is_last, usable}
use Rattle.authority_rules.specs.Authority.{main_holder, is_resource, holder_of, top_holder, slots_if, slots_of, held_slots, own_values, reached_by, holds_by, holds}
use Rattle.authority_rules.specs.Before.{everything, held_before}
use Rattle.authority_rules.proofs.CountedLaws.{named_kept_lem}
use Rattle.authority_rules.proofs.Opened.{holding}
use Rattle.authority_rules.proofs.SmallSheets.{sheet_of}

-- all of a list is in another
abbrev Inside : List ℕ → List ℕ → Type 0
Inside xs ys = (b : ℕ) → In b xs → In b ys

append-Inside : (xs xs' ys ys' : List ℕ) → Inside xs xs' → Inside ys ys' → Inside (xs ++ ys) (xs' ++ ys')
append-Inside xs xs' ys ys' f g b i = go (In-cases xs ys i)
  where
    go : In b xs ⊎ In b ys → In b (xs' ++ ys')
    go (inl j) = In-left xs' ys' (f b j)
    go (inr j) = In-right xs' ys' (g b j)

cond-Inside : (t : Bool) (xs xs' ys ys' : List ℕ) → Inside xs xs' → Inside ys ys' → Inside (cond t xs ys) (cond t xs' ys')
cond-Inside true xs xs' ys ys' f g = f
cond-Inside false xs xs' ys ys' f g = g

if_inside : (t : Bool) (xs xs' : List ℕ) → Inside xs xs' → Inside (slots_if t xs) (slots_if t xs')
if_inside true xs xs' f = f
if_inside false xs xs' f = λ b i. i

-- one way of counting counts no more than another
pub record NoMore (c c' : Counting) : Type 0 where
  pub top : (f : Frame) → Inside (c.top f) (c'.top f)
  pub waiting : (f : Frame) → Inside (c.waiting f) (c'.waiting f)
  pub kept : (s : Sheet) (o : Object) → Inside (c.kept s o) (c'.kept s o)

module _ (c c' : Counting) (n : NoMore c c') (s : Sheet) where
  slots_inside : (os : List Object) (h : ℕ) (fs : List Frame) → Inside (slots_of c.waiting s os h fs) (slots_of c'.waiting s os h fs)
  unfolding slots_of
  slots_inside os h [] = λ b i. i
  slots_inside os h (f ∷ fs) =
      append-Inside (slots_if (eqb (holder_of s os (f ∷ fs)) h) (c.waiting f)) (slots_if (eqb (holder_of s os (f ∷ fs)) h) (c'.waiting f))
      (slots_of c.waiting s os h fs) (slots_of c'.waiting s os h fs)
      (if_inside (eqb (holder_of s os (f ∷ fs)) h) (c.waiting f) (c'.waiting f) (n.waiting f)) (slots_inside os h fs)

  module _ (σ : State) (h : ℕ) where
    held_inside : Inside (held_slots c s σ h) (held_slots c' s σ h)
    held_inside =
        append-Inside (slots_if (eqb (top_holder s σ) h) (c.top σ.top)) (slots_if (eqb (top_holder s σ) h) (c'.top σ.top))
        (slots_of c.waiting s σ.objects h σ.below) (slots_of c'.waiting s σ.objects h σ.below)
        (if_inside (eqb (top_holder s σ) h) (c.top σ.top) (c'.top σ.top) (n.top σ.top)) (slots_inside σ.objects h σ.below)

    own_inside : (o : Object) → Inside (own_values c s h o) (own_values c' s h o)
    own_inside o b (here e) = here e
    own_inside o b (there i) = there (append-Inside (c.kept s o) (c'.kept s o) o.fields o.fields (n.kept s o) (λ x j. j) b i)

    reached_inside : Inside (reached_by c s σ h) (reached_by c' s σ h)
    unfolding reached_by
    reached_inside =
        let o : Object = object_at σ.objects h in
        let own : List ℕ = own_values c s h o ++ held_slots c s σ h in
        let own' : List ℕ = own_values c' s h o ++ held_slots c' s σ h in
        cond-Inside (eqb h main_holder) (held_slots c s σ h) (held_slots c' s σ h) (cond (is_resource s σ.objects h) own []) (cond (is_resource s σ.objects h) own' [])
        held_inside
        (cond-Inside (is_resource s σ.objects h) own own' [] []
        (append-Inside (own_values c s h o) (own_values c' s h o) (held_slots c s σ h) (held_slots c' s σ h) (own_inside o) held_inside) (λ b i. i))

    -- then nobody holds more by it
    pub no_more : (b : ℕ) → T (holds_by c s σ h b) → T (holds_by c' s σ h b)
    unfolding holds_by
    no_more b t =
        and_intro (is_resource s σ.objects b) (contains (reached_by c' s σ h) b) (and_left (is_resource s σ.objects b) (contains (reached_by c s σ h) b) t)
        (In-contains (reached_by c' s σ h) b (reached_inside b (contains-In (reached_by c s σ h) b (and_right (is_resource s σ.objects b) (contains (reached_by c s σ h) b) t))))

usable-NoMore : NoMore usable everything
usable-NoMore =
    record {
      top = λ f b i. places_in (λ v. code_names f.code v || is_last f v) f.slots i;
      waiting = λ f b i. places_in (code_names f.code) f.slots i;
      kept = λ s o b i. named_kept_lem s o i;
    }

-- what is held was held before
pub held_within : (s : Sheet) (σ : State) (h b : ℕ) → T (holds s σ h b) → T (held_before s σ h b)
held_within s σ h b t = no_more usable everything usable-NoMore s σ h b t

-- of P, done, main held scale and clerk; the sets of the two others are what they were
abbrev held_at_end : ℕ → List ℕ
held_at_end h = let s : Sheet = sheet_of (meaning (text_of P)) in passing (held_before s (run s 8).last h) 0 3

pub before_p : (held_at_end 256 ≡ 1 ∷ 2 ∷ []) × (held_at_end 1 ≡ 1 ∷ []) × (held_at_end 2 ≡ 1 ∷ 2 ∷ [])
unfolding holding sheet_of
before_p = (refl, refl, refl)
