-- Pure objects and resources: an object with a field is a resource, and a pure object keeps pure objects alone. Assumes nothing.
use Prim.Native.Nat.{ℕ, ◌<◌}
use mathlib.Core.Path.{◌≡◌, refl, sym, ap, ◌∙◌, subst}
use mathlib.Core.Bool.{Bool, false, ◌&&◌}
use mathlib.Core.List.{List, [], ◌∷◌}
use mathlib.Core.Option.{some}
use lib.Dec.{T, ltb, lt→ltb}
use lib.ListN.{length}
use borrow.Author.Tests.{lt-ltb}
use Rattle.lists.specs.In.{In, here, there}
use Rattle.lists.specs.Pairwise.{Pairwise, pair}
use Rattle.lists.proofs.Tests.{and_right, and_intro, clash}
use Rattle.sheet_rules.specs.declared.Kind.{Kind}
use Rattle.sheet_rules.specs.declared.Kind.TheVariants.{Pure, Resource}
use Rattle.sheet_rules.specs.declared.Member.{Member}
use Rattle.sheet_rules.specs.declared.Member.TheVariants.{Method, Field}
use Rattle.sheet_rules.specs.Sheet.{Sheet, row_at, row_of_form}
use Rattle.sheet_rules.specs.WellFormed.{WellFormed}
use Rattle.type_rules.specs.SlotRows.{field_in, members_at}
use Rattle.type_rules.specs.Typing.{is_pure, has_field}
use Rattle.type_rules.specs.Typed.{Typed}
use Rattle.type_rules.proofs.LookUpLaws.{fits_pure}
use Rattle.machine_rules.specs.State.{Object, State, object_at}
use Rattle.machine_rules.specs.Sound.{row_of_object, Is, Sound}
use Rattle.machine_rules.proofs.NextSound.{form_of}
use Rattle.authority_rules.specs.Authority.{is_resource_kind, is_resource}

field_in_has : (ms : List Member) (n r : ℕ) → field_in ms n ≡ some r → T (has_field ms)
unfolding field_in has_field
field_in_has [] n r e = clash (cc)
field_in_has (Field k b ∷ ms) n r e = tt
field_in_has (Method k a b ∷ ms) n r e = field_in_has ms n r e

pub not_pure : (k : Kind) → (T (is_pure k) → ⊥) → T (is_resource_kind k)
not_pure Pure h = h tt
not_pure Resource h = tt

not_resource : (k : Kind) → is_resource_kind k ≡ false → T (is_pure k)
not_resource Pure e = tt
not_resource Resource e = subst T e tt

not_both : (k : Kind) → T (is_pure k) → T (is_resource_kind k) → ⊥
not_both Pure p r = r
not_both Resource p r = p

-- the kind of an object's row
abbrev kind_of : Sheet → List Object → ℕ → Kind
kind_of s os o = (row_of_form s (object_at os o).form).kind

module _ (s : Sheet) (t : Typed s) (σ : State) (c : Sound s σ) where
  -- an object whose row has a field is a resource
  pub field_resource : (o n r : ℕ) → o < length σ.objects → field_in (members_at s (row_of_object s σ.objects o)) n ≡ some r
      → T (is_resource s σ.objects o)
  unfolding is_resource
  field_resource o n r h e =
      and_intro (ltb o (length σ.objects)) (is_resource_kind (kind_of s σ.objects o)) (lt→ltb o (length σ.objects) h)
      (not_pure (kind_of s σ.objects o) (λ p. ((form_of s t σ c o h).pure p).no_field (field_in_has (members_at s (row_of_object s σ.objects o)) n r e)))

module _ (s : Sheet) (w : WellFormed s) (t : Typed s) (σ : State) (c : Sound s σ) where
  -- what fits a pure row is no resource
  pure_is : (b k : ℕ) → Is s σ.objects b k → T (is_pure (row_at s.rows k).kind) → T (is_resource s σ.objects b) → ⊥
  unfolding is_resource
  pure_is b k i p r =
      not_both (kind_of s σ.objects b) (fits_pure s w (row_of_object s σ.objects b) k i.fit p)
      (and_right (ltb b (length σ.objects)) (is_resource_kind (kind_of s σ.objects b)) r)

  pure_values : {b : ℕ} {xs ks : List ℕ} → Pairwise (Is s σ.objects) xs ks → ((k : ℕ) → In k ks → T (is_pure (row_at s.rows k).kind))
      → In b xs → T (is_resource s σ.objects b) → ⊥
  pure_values (pair {x = x} {y = k} i p) h (here e) r =
      pure_is x k i (h k (here refl)) (subst (λ (y : ℕ). T (is_resource s σ.objects y)) e r)
  pure_values (pair i p) h (there j) r = pure_values p (λ k m. h k (there m)) j r
  pure_values {b = b} Rattle.lists.specs.Pairwise.none h x10 r = elim x10 [ ]

  -- a pure object keeps no resource
  pub pure_keeps : (o b : ℕ) → o < length σ.objects → is_resource s σ.objects o ≡ false → In b (object_at σ.objects o).kept
      → T (is_resource s σ.objects b) → ⊥
  unfolding is_resource
  pure_keeps o b h e i r =
      let pure : T (is_pure (kind_of s σ.objects o)) = not_resource (kind_of s σ.objects o)
      (sym (ap (λ (x : Bool). x && is_resource_kind (kind_of s σ.objects o)) (lt-ltb o (length σ.objects) h)) ∙ e) in
      pure_values (c.store o h).kept ((form_of s t σ c o h).pure pure).pure_keeps i r
