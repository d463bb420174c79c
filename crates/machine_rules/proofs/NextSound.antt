-- Preservation and progress: a sound state of a well-typed sheet never lacks its next step, which leads to a sound state. One
-- lemma for each instruction and the return, one theorem over the next step. Assumes nothing.
use Prim.Native.Nat.{ℕ, pred, ◌+◌, ◌≤◌, ◌<◌}
use native.Mathlib.Omega.{arith}
use mathlib.Core.Path.{◌≡◌, refl, sym, ap, ◌∙◌, subst}
use mathlib.Core.Bool.{Bool, true, false, cond}
use mathlib.Core.List.{List, [], ◌∷◌, ◌++◌}
use mathlib.Core.Option.{Option, none, some}
use lib.Dec.{T, ltb}
use lib.ListN.{length, get_or, set, length-append, length-set}
use lib.Seq.{get_or-append_seam}
use borrow.Author.Tests.{ltb-true, ltb-false}
use Rattle.lists.specs.Pairwise.{Pairwise, pair}
use Rattle.lists.proofs.InLaws.{In-get_or}
use Rattle.lists.proofs.PairwiseLaws.{Pairwise-length, Pairwise-snoc, Pairwise-at, Pairwise-set}
use Rattle.lists.proofs.Tests.{clash}
use Rattle.sheet_rules.specs.Limits.{keep_limit, body_limit, store_limit, stack_limit}
use Rattle.sheet_rules.specs.Sheet.{Instr, new, call, get, put, copy, Form, Sheet, no_form, form_at}
use Rattle.sheet_rules.specs.WellFormed.{WellFormedForm, WellFormed}
use Rattle.type_rules.specs.Fit.{fits}
use Rattle.type_rules.specs.SlotRows.{Signature, method_in, members_at, last_row, body_rows}
use Rattle.type_rules.specs.Typed.{SlotFits, InstrTyped, typed_new, typed_call, typed_get, typed_put, typed_copy, ResultFits, declared, CodeTyped, end, next, FormTyped, Typed}
use Rattle.type_rules.proofs.FitLaws.{fits_refl}
use Rattle.type_rules.proofs.LookUpLaws.{Found, fits_method}
use Rattle.machine_rules.specs.State.{Object, Frame, State, frame_count, no_object, object_at, made, last_of}
use Rattle.machine_rules.specs.Step.{Next, step, store_full, stack_full, creates, body_in, field_place, members_of, slot_values, moved_on, with_new, new_step, called_step, call_step, got_step, get_step, with_field, has_put_step, put_step, instr_step, return_step, code_step, next_step}
use Rattle.machine_rules.specs.Stopped.{BeginsWithNew, a_new, BeginsWithCall, a_call}
use Rattle.machine_rules.specs.Sound.{Is, field_rows, SoundObject, object, slot_limit, SoundBelow, bottom, waits, Sound}
use Rattle.machine_rules.proofs.NextLaws.{Comes, its_end, its_step, its_store, its_stack}
use Rattle.machine_rules.proofs.FoundLaws.{HasBody, body_found, body_formed, HasField, field_found, OwnField, of_object, own_found, last_of_at}
use Rattle.machine_rules.proofs.StoreLaws.{Grows, Grows-refl, Grows-append, Grows-set, Is-grows, frame_grows, below_grows, SoundStore, store_append, store_set, Is-fits, slot_is, slot_fits, values_fit, initial_fit}

-- what comes next after the given code of the top frame: the end, a step to a sound state, or stopped for its reason; never lacking
abbrev pub Goes : Sheet → State → List Instr → Next → Type 0
Goes s σ is =
    Comes (λ a σ'. Sound s σ') (BeginsWithNew is × (length σ.objects ≡ store_limit)) (BeginsWithCall is × (frame_count σ ≡ stack_limit)) ⊥

-- the form of an object is well typed
pub form_of : (s : Sheet) → Typed s → (σ : State) → Sound s σ → (o : ℕ) → o < length σ.objects → FormTyped s (form_at s (object_at σ.objects o).form)
form_of s t σ c o h =
    let f : ℕ = (object_at σ.objects o).form in
    t.forms (form_at s f) (In-get_or s.forms f no_form (c.store o h).form)

module _ (s : Sheet) (w : WellFormed s) (t : Typed s) (σ : State) (c : Sound s σ) where
  -- what is left of the top frame's code is typed once a slot of row a is filled, and there is room for that slot and the code's
  record Left (a : ℕ) (is : List Instr) : Type 0 where
    code : CodeTyped s c.own c.result (c.rows ++ (a ∷ [])) is
    room : length σ.top.slots + length is < slot_limit

  -- the top frame moves on with one slot more, of row a, while the store grows
  moved_on_lem : (os : List Object) → Grows σ.objects os → SoundStore s os → length os ≤ store_limit
      → (is : List Instr) (v a : ℕ) → Left a is → Is s os v a → Sound s (moved_on os σ is v)
  moved_on_lem os g all few is v a left i =
      let f = frame_grows s σ.objects os g c.top in
      record {
        store = all;
        own = c.own;
        result = c.result;
        rows = c.rows ++ (a ∷ []);
        top = record { receives = f.receives; slots = Pairwise-snoc f.slots i };
        code = left.code;
        room = rw length-append (omega (arith, left.room));
        below = below_grows s σ.objects os g c.below;
        places = few;
        height = c.height;
      }

  -- in place: the store stays as it is
  worked : (is : List Instr) (v a : ℕ) → Left a is → Is s σ.objects v a
      → Sound s (moved_on σ.objects σ is v)
  worked is v a left i = moved_on_lem σ.objects (Grows-refl σ.objects) c.store c.places is v a left i

  new-Goes : (is : List Instr) (f : ℕ) (ss : List ℕ) → f < length s.forms → Pairwise (SlotFits s c.rows) ss (form_at s f).keeps
      → Left (form_at s f).row is → Goes s σ (new f ss ∷ is) (new_step s σ is f (slot_values σ.top.slots ss))
  new-Goes is f ss h fit left = go (ltb (length σ.objects) store_limit) refl
    where
      kept : List ℕ
      kept = slot_values σ.top.slots ss

      x : Object
      x = made s f kept

      os : List Object
      os = σ.objects ++ (x ∷ [])

      kept-fit : Pairwise (Is s σ.objects) kept (form_at s f).keeps
      kept-fit = values_fit s σ.objects σ.top.slots c.rows ss (form_at s f).keeps c.top.slots fit

      sound : SoundObject s σ.objects x
      sound =
          record {
            form = h;
            kept = kept-fit;
            fields = initial_fit s σ.objects (form_at s f) kept kept-fit (t.forms (form_at s f) (In-get_or s.forms f no_form h)).parts;
          }

      l : length os ≡ length σ.objects + 1
      l = length-append σ.objects (x ∷ [])

      this : object_at os (length σ.objects) ≡ x
      this = get_or-append_seam σ.objects x [] no_object

      is_x : Is s os (length σ.objects) (form_at s f).row
      is_x =
          record {
            made = omega (arith, l);
            fit = subst (λ (y : Object). T (fits s.rows (form_at s y.form).row (form_at s f).row)) (sym this) (fits_refl s.rows (form_at s f).row);
          }

      go : (b : Bool) → ltb (length σ.objects) store_limit ≡ b
          → Goes s σ (new f ss ∷ is) (cond b (step (creates (length σ.objects) kept) (with_new s σ is f kept)) store_full)
      go true e =
          its_step (moved_on_lem os (Grows-append σ.objects x) (store_append s σ.objects x c.store sound)
          (omega (arith, l, ltb-true (length σ.objects) store_limit e)) is (length σ.objects) (form_at s f).row left is_x)
      go false e = its_store (a_new, omega (arith, ltb-false (length σ.objects) store_limit e, c.places))

  -- the object that a typed call finds in a slot, and the body that its form has for the method
  pub record Callee (o n : ℕ) (m : Signature) (f : Form) : Type 0 where
    pub is_receiver : Is s σ.objects (get_or σ.top.slots o 0) (get_or c.rows o 0)
    pub found : Found s f.row n m
    pub has : HasBody s f (members_at s f.row) f.parts n found.found

  pub callee : (o n : ℕ) (m : Signature) → o < length c.rows → method_in (members_at s (get_or c.rows o 0)) n ≡ some m
      → Callee o n m (form_at s (object_at σ.objects (get_or σ.top.slots o 0)).form)
  callee o n m h e =
      let receiver : ℕ = get_or σ.top.slots o 0 in
      let f : Form = form_at s (object_at σ.objects receiver).form in
      let i : Is s σ.objects receiver (get_or c.rows o 0) = slot_is s σ.objects σ.top.slots c.rows o c.top.slots h in
      let x : Found s f.row n m = fits_method s w f.row (get_or c.rows o 0) n m i.fit e in
      record { is_receiver = i; found = x; has = body_found n x.found (form_of s t σ c receiver i.made).parts x.looked_up }

  call-Goes : (is : List Instr) (o n a : ℕ) (m : Signature) → o < length c.rows → method_in (members_at s (get_or c.rows o 0)) n ≡ some m
      → SlotFits s c.rows a m.argument → Left m.result is
      → Goes s σ (call o n a ∷ is) (call_step s σ is (get_or σ.top.slots o 0) n (get_or σ.top.slots a 0))
  call-Goes is o n a m h e fit left = go (ltb (frame_count σ) stack_limit) refl (body_in (members_at s f.row) f.parts n) has.looked_up
    where
      receiver : ℕ
      receiver = get_or σ.top.slots o 0

      argument : ℕ
      argument = get_or σ.top.slots a 0

      f : Form
      f = form_at s (object_at σ.objects receiver).form

      called : Callee o n m f
      called = callee o n m h e

      is_receiver : Is s σ.objects receiver (get_or c.rows o 0)
      is_receiver = called.is_receiver

      there : SoundObject s σ.objects (object_at σ.objects receiver)
      there = c.store receiver is_receiver.made

      well_formed : WellFormedForm s.rows (length s.forms) f
      well_formed = w.forms f (In-get_or s.forms (object_at σ.objects receiver).form no_form there.form)

      found : Found s f.row n m
      found = called.found

      has : HasBody s f (members_at s f.row) f.parts n found.found
      has = called.has

      is-argument : Is s σ.objects argument found.found.argument
      is-argument =
          Is-fits s σ.objects argument m.argument found.found.argument
          (slot_fits s σ.objects σ.top.slots c.rows a m.argument c.top.slots fit) found.argument_fits

      kept-few : length (object_at σ.objects receiver).kept ≤ keep_limit
      kept-few = omega (arith, Pairwise-length there.kept, well_formed.few)

      body-short : length has.code ≤ body_limit
      body-short = (body_formed n has.code well_formed.parts has.looked_up).1.few

      own : Is s σ.objects receiver f.row
      own = record { made = is_receiver.made; fit = fits_refl s.rows f.row }

      go : (b : Bool) → ltb (frame_count σ) stack_limit ≡ b → (x : Option (List Instr)) → x ≡ some has.code
          → Goes s σ (call o n a ∷ is) (cond b (called_step σ is receiver argument x) stack_full)
      go false p x q = its_stack (a_call, omega (arith, ltb-false (frame_count σ) stack_limit p, c.height))
      go true p none q = clash (cc)
      go true p (some is') q =
          let same : has.code ≡ is' = cc in
          its_step (record {
            store = c.store;
            own = some f.row;
            result = some found.found.result;
            rows = body_rows f found.found.argument;
            top = record { receives = object is_receiver.made refl; slots = pair own (pair is-argument there.kept) };
            code = subst (λ (x : List Instr). CodeTyped s (some f.row) (some found.found.result) (body_rows f found.found.argument) x) same has.typed;
            room = omega (arith, kept-few, subst (λ (x : List Instr). length x ≤ body_limit) same body-short);
            below = waits m.result (record { receives = c.top.receives; slots = c.top.slots }) left.code left.room found.result_fits c.below;
            places = c.places;
            height = omega (arith, ltb-true (frame_count σ) stack_limit p);
          })

  -- the value of an object's field fits the field's row
  field_is : (o n r : ℕ) → o < length σ.objects → (has : HasField (members_of s (object_at σ.objects o)) n r)
      → Is s σ.objects (get_or (object_at σ.objects o).fields has.place 0) r
  field_is o n r h has =
      let p = (c.store o h).fields in
      subst (Is s σ.objects (get_or (object_at σ.objects o).fields has.place 0)) has.row
      (Pairwise-at (object_at σ.objects o).fields (field_rows (members_of s (object_at σ.objects o))) has.place 0 0 p
      (omega (arith, Pairwise-length p, has.inside)))

  get_goes : (js is : List Instr) {own : Option ℕ} (n r : ℕ) → OwnField s σ.objects n r own → Left r is → Goes s σ js (get_step s σ is own n)
  get_goes js is n r (of_object {o = o} h f) left = go (field_place (members_of s x) n) has.looked_up
    where
      x : Object
      x = object_at σ.objects o

      has : HasField (members_of s x) n r
      has = field_found (members_of s x) n r f

      go : (i : Option ℕ) → i ≡ some has.place → Goes s σ js (got_step σ is o i)
      go none q = clash (cc)
      go (some i) q =
          let j : has.place ≡ i = cc in
          its_step (worked is (get_or x.fields i 0) r left (subst (λ (k : ℕ). Is s σ.objects (get_or x.fields k 0) r) j (field_is o n r h has)))

  put_goes : (js is : List Instr) {own : Option ℕ} (n v r : ℕ) → OwnField s σ.objects n r own → Is s σ.objects v r → Left r is
      → Goes s σ js (put_step s σ is own n v)
  put_goes js is n v r (of_object {o = o} h f) fit left = go (field_place (members_of s x) n) has.looked_up
    where
      x : Object
      x = object_at σ.objects o

      has : HasField (members_of s x) n r
      has = field_found (members_of s x) n r f

      sound : (i : ℕ) → has.place ≡ i → SoundObject s σ.objects (with_field x i v)
      sound i j =
          let y = c.store o h in
          record {
            form = y.form;
            kept = y.kept;
            fields = Pairwise-set x.fields (field_rows (members_of s x)) i v 0 y.fields
                (subst (Is s σ.objects v) (sym has.row ∙ ap (λ (k : ℕ). get_or (field_rows (members_of s x)) k 0) j) fit);
          }

      go : (i : Option ℕ) → i ≡ some has.place → Goes s σ js (has_put_step σ is o v i)
      go none q = clash (cc)
      go (some i) q =
          let y : Object = with_field x i v in
          let os : List Object = set σ.objects o y in
          let l : length os ≡ length σ.objects = length-set σ.objects o y in
          let g : Grows σ.objects os = Grows-set σ.objects o y refl in
          its_step (moved_on_lem os g (store_set s σ.objects o y refl c.store (sound i (cc))) (omega (arith, l, c.places)) is v r left
          (Is-grows s σ.objects os g v r fit))

  instr_goes : (i : Instr) (is : List Instr) (a : ℕ) → InstrTyped s c.own c.rows i a
      → Left a is → Goes s σ (i ∷ is) (instr_step s σ i is)
  unfolding instr_step
  instr_goes (new f ss) is a (typed_new h fit) left = new-Goes is f ss h fit left
  instr_goes (call o n v) is a (typed_call {m = m} h e fit) left = call-Goes is o n v m h e fit left
  instr_goes (get n) is a (typed_get e) left = get_goes (get n ∷ is) is n a (own_found n a c.top.receives e) left
  instr_goes (put n v) is a (typed_put e fit) left =
      put_goes (put n v ∷ is) is n (get_or σ.top.slots v 0) a (own_found n a c.top.receives e)
      (slot_fits s σ.objects σ.top.slots c.rows v a c.top.slots fit) left
  instr_goes (copy v) is a (typed_copy h) left =
      its_step (worked is (get_or σ.top.slots v 0) (get_or c.rows v 0) left (slot_is s σ.objects σ.top.slots c.rows v c.top.slots h))

  -- the value of the top frame at its end fits the row of its last slot
  last_is : 0 < length c.rows → Is s σ.objects (last_of σ.top.slots) (last_row c.rows)
  last_is h =
      let l : length σ.top.slots ≡ length c.rows = Pairwise-length c.top.slots in
      subst (λ (v : ℕ). Is s σ.objects v (last_row c.rows)) (ap (λ (k : ℕ). get_or σ.top.slots (pred k) 0) (sym l) ∙ sym (last_of_at σ.top.slots))
      (slot_is s σ.objects σ.top.slots c.rows (pred (length c.rows)) c.top.slots (omega arith))

  return_goes : (result : Option ℕ) (fs : List Frame) → SoundBelow s σ.objects result fs → length fs ≤ length σ.below → 0 < length c.rows
      → ResultFits s (last_row c.rows) result → Goes s σ [] (return_step σ fs)
  unfolding return_step
  return_goes none [] bottom l h r = its_end
  return_goes (some r') (f ∷ fs) (waits {own = own} {result = result} {rows = rows} r frame code room fit below) l h (declared u) =
      let value : Is s σ.objects (last_of σ.top.slots) r = Is-fits s σ.objects (last_of σ.top.slots) r' r
      (Is-fits s σ.objects (last_of σ.top.slots) (last_row c.rows) r' (last_is h) u) fit in
      its_step (record {
        store = c.store;
        own = own;
        result = result;
        rows = rows ++ (r ∷ []);
        top = record { receives = frame.receives; slots = Pairwise-snoc frame.slots value };
        code = code;
        room = rw length-append (omega arith);
        below = below;
        places = c.places;
        height = omega (arith, c.height);
      })
  return_goes none (f ∷ fs) x8 l h r = elim x8 [ ]
  return_goes (some r') [] x6 l h r = elim x6 [ ]

  code_goes : (is : List Instr) → CodeTyped s c.own c.result c.rows is → length σ.top.slots + length is ≤ slot_limit → Goes s σ is (code_step s σ is)
  unfolding code_step
  code_goes [] (end h r) room = return_goes c.result σ.below c.below (omega arith) h r
  code_goes (i ∷ is) (next {a = a} h code) room = instr_goes i is a h (record { code = code; room = omega arith })

  -- preservation and progress: a sound state never lacks its next step, which leads to a sound state or is stopped for its reason
  pub sound_goes : Goes s σ σ.top.code (next_step s σ)
  unfolding next_step
  sound_goes = code_goes σ.top.code c.code c.room
