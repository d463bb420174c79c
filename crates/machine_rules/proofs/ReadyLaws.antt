-- What a sound state has ready for its next instruction, for those who take it in a buffer. Assumes nothing.
use Prim.Native.Nat.{ℕ, ◌≤◌, ◌<◌}
use native.Mathlib.Omega.{arith}
use mathlib.Core.Path.{◌≡◌, refl, subst}
use mathlib.Core.List.{List, [], ◌∷◌}
use mathlib.Core.Option.{Option, some}
use lib.ListN.{length, get_or}
use Rattle.lists.specs.In.{In, here, there}
use Rattle.lists.specs.Pairwise.{Pairwise, pair}
use Rattle.lists.proofs.InLaws.{In-nil, In-get_or}
use Rattle.lists.proofs.PairwiseLaws.{Pairwise-length, Pairwise-at}
use Rattle.lists.proofs.Tests.{clash}
use Rattle.sheet_rules.specs.declared.Member.{Member}
use Rattle.sheet_rules.specs.declared.Member.TheVariants.{Method, Field}
use Rattle.sheet_rules.specs.Limits.{name_limit}
use Rattle.sheet_rules.specs.Sheet.{Instr, new, call, get, put, copy, Part, init, Sheet, no_form, form_at}
use Rattle.sheet_rules.specs.WellFormed.{PartOf, WellFormed}
use Rattle.type_rules.specs.Typed.{InstrTyped, typed_new, typed_call, typed_get, typed_put, typed_copy, CodeTyped, end, next, Typed}
use Rattle.machine_rules.specs.State.{Object, State, object_at}
use Rattle.machine_rules.specs.Step.{body_in, field_place, members_of}
use Rattle.machine_rules.specs.Sound.{field_rows, Sound}
use Rattle.machine_rules.proofs.FoundLaws.{HasField, field_found, OwnField, of_object, own_found}
use Rattle.machine_rules.proofs.NextSound.{callee}

-- an object: its form is there, and it has as many kept values and fields as its form and row say
pub record ObjectReady (s : Sheet) (σ : State) (o : ℕ) : Type 0 where
  pub form : (object_at σ.objects o).form < length s.forms
  pub kept : length (object_at σ.objects o).kept ≡ length (form_at s (object_at σ.objects o).form).keeps
  pub fields : length (object_at σ.objects o).fields ≡ length (field_rows (members_of s (object_at σ.objects o)))

-- for `get` and `put` of name n: the own object, and the place of its field
pub record OwnReady (s : Sheet) (σ : State) (n : ℕ) : Type 0 where
  pub own : ℕ
  pub is_own : σ.top.own ≡ some own
  pub made : own < length σ.objects
  pub place : ℕ
  pub looked_up : field_place (members_of s (object_at σ.objects own)) n ≡ some place
  pub inside : place < length (object_at σ.objects own).fields
  pub name : n ≤ name_limit

-- for `new` of form f: a filled slot for each value that the form keeps, and kept values that its fields start as
pub record NewReady (s : Sheet) (σ : State) (f : ℕ) (ss : List ℕ) : Type 0 where
  pub form : f < length s.forms
  pub count : length ss ≡ length (form_at s f).keeps
  pub filled : (k : ℕ) → k < length ss → get_or ss k 0 < length σ.top.slots
  pub starts : (k : ℕ) → In (init k) (form_at s f).parts → k < length (form_at s f).keeps

-- for `call` of method n: filled slots, and the body that the form of the object in slot o has for the method
pub record CallReady (s : Sheet) (σ : State) (o n a : ℕ) : Type 0 where
  pub object : o < length σ.top.slots
  pub argument : a < length σ.top.slots
  pub made : get_or σ.top.slots o 0 < length σ.objects
  pub code : List Instr
  pub looked_up : body_in (members_of s (object_at σ.objects (get_or σ.top.slots o 0))) (form_at s (object_at σ.objects (get_or σ.top.slots o 0)).form).parts n ≡ some code
  pub name : n ≤ name_limit

-- a field starts as one of the kept values
part_starts : {forms keeps k : ℕ} {ms : List Member} {ps : List Part} → Pairwise (PartOf forms keeps) ms ps → In (init k) ps → k < keeps
part_starts Pairwise.none i = absurd (In-nil i)
part_starts {keeps = keeps} {k = k} (pair (PartOf.field {k = j} h) p) (here e) = let same : k ≡ j = cc in omega arith
part_starts (pair (PartOf.method h) p) (here e) = clash (cc)
part_starts (pair h p) (there i) = part_starts p i

module _ (s : Sheet) (σ : State) (c : Sound s σ) where
  pub object_ready : (o : ℕ) → o < length σ.objects → ObjectReady s σ o
  object_ready o h =
      let x = c.store o h in
      record { form = x.form; kept = Pairwise-length x.kept; fields = Pairwise-length x.fields }

  -- there is a slot filled for each row
  slot_filled : (v : ℕ) → v < length c.rows → v < length σ.top.slots
  slot_filled v h = omega (arith, Pairwise-length c.top.slots)

  pub ready_end : σ.top.code ≡ [] → 0 < length σ.top.slots
  ready_end e = go (subst (CodeTyped s c.own c.result c.rows) e c.code)
    where
      go : CodeTyped s c.own c.result c.rows [] → 0 < length σ.top.slots
      go (end h r) = slot_filled 0 h

  -- the next instruction is typed
  typed_first : (i : Instr) (is : List Instr) → σ.top.code ≡ i ∷ is → (a : ℕ) × InstrTyped s c.own c.rows i a
  typed_first i is e = go (subst (CodeTyped s c.own c.result c.rows) e c.code)
    where
      go : CodeTyped s c.own c.result c.rows (i ∷ is) → (a : ℕ) × InstrTyped s c.own c.rows i a
      go (next {a = a} h code) = (a, h)

module _ (s : Sheet) (σ : State) (c : Sound s σ) (is : List Instr) where
  pub ready_copy : (v : ℕ) → σ.top.code ≡ copy v ∷ is → v < length σ.top.slots
  ready_copy v e = go (typed_first s σ c (copy v) is e).1
    where
      go : {a : ℕ} → InstrTyped s c.own c.rows (copy v) a → v < length σ.top.slots
      go (typed_copy h) = slot_filled s σ c v h

-- an own object that has field n is ready for it
own_ready : (s : Sheet) → WellFormed s → (σ : State) → Sound s σ → (n r : ℕ) {own : Option ℕ} → σ.top.own ≡ own → OwnField s σ.objects n r own → OwnReady s σ n
own_ready s w σ c n r e (of_object {o = o} h f) =
    let x : Object = object_at σ.objects o in
    let has : HasField (members_of s x) n r = field_found (members_of s x) n r f in
    record {
      own = o;
      is_own = e;
      made = h;
      place = has.place;
      looked_up = has.looked_up;
      inside = omega (arith, (object_ready s σ c o h).fields, has.inside);
      name = (w.rows (form_at s x.form).row).low (Field n r) has.member;
    }

module _ (s : Sheet) (w : WellFormed s) (σ : State) (c : Sound s σ) (is : List Instr) where
  pub ready_get : (n : ℕ) → σ.top.code ≡ get n ∷ is → OwnReady s σ n
  ready_get n e = go (typed_first s σ c (get n) is e).1
    where
      go : {a : ℕ} → InstrTyped s c.own c.rows (get n) a → OwnReady s σ n
      go {a} (typed_get f) = own_ready s w σ c n a refl (own_found n a c.top.receives f)

  pub ready_put : (n v : ℕ) → σ.top.code ≡ put n v ∷ is → OwnReady s σ n × (v < length σ.top.slots)
  ready_put n v e = go (typed_first s σ c (put n v) is e).1
    where
      go : {a : ℕ} → InstrTyped s c.own c.rows (put n v) a → OwnReady s σ n × (v < length σ.top.slots)
      go {a} (typed_put f fit) = (own_ready s w σ c n a refl (own_found n a c.top.receives f), slot_filled s σ c v fit.filled)

  pub ready_new : (f : ℕ) (ss : List ℕ) → σ.top.code ≡ new f ss ∷ is → NewReady s σ f ss
  ready_new f ss e = go (typed_first s σ c (new f ss) is e).1
    where
      go : {a : ℕ} → InstrTyped s c.own c.rows (new f ss) a → NewReady s σ f ss
      go (typed_new h fit) =
          record {
            form = h;
            count = Pairwise-length fit;
            filled = λ k l. slot_filled s σ c (get_or ss k 0) (Pairwise-at ss (form_at s f).keeps k 0 0 fit l).filled;
            starts = λ k i. part_starts (w.forms (form_at s f) (In-get_or s.forms f no_form h)).parts i;
          }

module _ (s : Sheet) (w : WellFormed s) (t : Typed s) (σ : State) (c : Sound s σ) (is : List Instr) where
  pub ready_call : (o n a : ℕ) → σ.top.code ≡ call o n a ∷ is → CallReady s σ o n a
  ready_call o n a e = go (typed_first s σ c (call o n a) is e).1
    where
      go : {r : ℕ} → InstrTyped s c.own c.rows (call o n a) r → CallReady s σ o n a
      go (typed_call {m = m} h f fit) =
          let x = callee s w t σ c o n m h f in
          record {
            object = slot_filled s σ c o h;
            argument = slot_filled s σ c a fit.filled;
            made = x.is_receiver.made;
            code = x.has.code;
            looked_up = x.has.looked_up;
            name = (w.rows (form_at s (object_at σ.objects (get_or σ.top.slots o 0)).form).row).low
                (Method n x.found.found.argument x.found.found.result) x.has.member;
          }
