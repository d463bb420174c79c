-- What comes next, by the code of the top frame; and one turn of the run, by what comes next. Assumes nothing.
use Prim.Native.Nat.{ℕ, zero, suc, ◌≤◌, ◌<◌}
use mathlib.Core.Path.{◌≡◌, refl, ap, ◌∙◌}
use mathlib.Core.Bool.{Bool, true, false, cond}
use mathlib.Core.List.{List, [], ◌∷◌}
use mathlib.Core.Option.{Option, none, some}
use lib.Dec.{ltb}
use lib.ListN.{length, get_or, set}
use borrow.Author.Tests.{lt-ltb, le-ltb}
use Rattle.lists.proofs.Tests.{clash}
use Rattle.sheet_rules.specs.Limits.{store_limit, stack_limit}
use Rattle.sheet_rules.specs.Sheet.{Instr, new, call, get, put, copy, Part, Sheet, form_at}
use Rattle.machine_rules.specs.declared.Outcome.{Outcome}
use Rattle.machine_rules.specs.declared.Outcome.TheVariants.{Done, Spent, StoreFull, StackFull}
use Rattle.machine_rules.specs.State.{Frame, State, frame_count, object_at, last_of, filled}
use Rattle.machine_rules.specs.Step.{Action, creates, calls, returns, works, Next, finished, step, store_full, stack_full, lacking, body_in, field_place, members_of, slot_values, moved_on, with_new, entered, called_step, got_step, get_step, with_field, has_put_step, put_step, instr_step, return_step, code_step, next_step}
use Rattle.machine_rules.specs.Steps.{ended, budget_used, go_on, run_from}
use Rattle.machine_rules.proofs.StepsLaws.{is_finished}

-- WHAT COMES NEXT

module _ (s : Sheet) (σ : State) (is : List Instr) where
  taken : (i : Instr) → σ.top.code ≡ i ∷ is → next_step s σ ≡ instr_step s σ i is
  unfolding next_step code_step
  taken i e = ap (code_step s σ) e

  pub take_copy : (v : ℕ) → σ.top.code ≡ copy v ∷ is → next_step s σ ≡ step works (moved_on σ.objects σ is (get_or σ.top.slots v 0))
  unfolding instr_step
  take_copy v e = taken (copy v) e

  pub take_get : (n o i : ℕ) → σ.top.code ≡ get n ∷ is → σ.top.own ≡ some o → field_place (members_of s (object_at σ.objects o)) n ≡ some i
      → next_step s σ ≡ step works (moved_on σ.objects σ is (get_or (object_at σ.objects o).fields i 0))
  unfolding instr_step
  take_get n o i e own place = taken (get n) e ∙ ap (λ (x : Option ℕ). get_step s σ is x n) own ∙ ap (got_step σ is o) place

  pub take_put : (n v o i : ℕ) → σ.top.code ≡ put n v ∷ is → σ.top.own ≡ some o → field_place (members_of s (object_at σ.objects o)) n ≡ some i
      → next_step s σ
      ≡ step works (moved_on (set σ.objects o (with_field (object_at σ.objects o) i (get_or σ.top.slots v 0))) σ is (get_or σ.top.slots v 0))
  unfolding instr_step
  take_put n v o i e own place =
      let x : ℕ = get_or σ.top.slots v 0 in
      taken (put n v) e ∙ ap (λ (y : Option ℕ). put_step s σ is y n x) own ∙ ap (has_put_step σ is o x) place

  -- `new`, by whether the store has a place left
  new_next : (f : ℕ) (ss : List ℕ) (b : Bool) → σ.top.code ≡ new f ss ∷ is → ltb (length σ.objects) store_limit ≡ b
      → next_step s σ ≡ cond b (step (creates (length σ.objects) (slot_values σ.top.slots ss)) (with_new s σ is f (slot_values σ.top.slots ss))) store_full
  unfolding instr_step
  new_next f ss b e p =
      let kept : List ℕ = slot_values σ.top.slots ss in
      taken (new f ss) e ∙ ap (λ (t : Bool). cond t (step (creates (length σ.objects) kept) (with_new s σ is f kept)) store_full) p

  pub take_new : (f : ℕ) (ss : List ℕ) → σ.top.code ≡ new f ss ∷ is → length σ.objects < store_limit
      → next_step s σ ≡ step (creates (length σ.objects) (slot_values σ.top.slots ss)) (with_new s σ is f (slot_values σ.top.slots ss))
  take_new f ss e h = new_next f ss true e (lt-ltb (length σ.objects) store_limit h)

  pub full_store : (f : ℕ) (ss : List ℕ) → σ.top.code ≡ new f ss ∷ is → store_limit ≤ length σ.objects → next_step s σ ≡ store_full
  full_store f ss e h = new_next f ss false e (le-ltb (length σ.objects) store_limit h)

  -- `call`, by whether the stack has a frame left
  call_next : (o n a : ℕ) (b : Bool) → σ.top.code ≡ call o n a ∷ is → ltb (frame_count σ) stack_limit ≡ b
      → next_step s σ
      ≡ cond b
      (called_step σ is (get_or σ.top.slots o 0) (get_or σ.top.slots a 0)
      (body_in (members_of s (object_at σ.objects (get_or σ.top.slots o 0))) (form_at s (object_at σ.objects (get_or σ.top.slots o 0)).form).parts n))
      stack_full
  unfolding instr_step
  call_next o n a b e p =
      let receiver : ℕ = get_or σ.top.slots o 0 in
      let parts : List Part = (form_at s (object_at σ.objects receiver).form).parts in
      taken (call o n a) e
      ∙ ap (λ (t : Bool). cond t (called_step σ is receiver (get_or σ.top.slots a 0) (body_in (members_of s (object_at σ.objects receiver)) parts n)) stack_full) p

  pub take_call : (o n a : ℕ) (code : List Instr) → σ.top.code ≡ call o n a ∷ is → frame_count σ < stack_limit
      → body_in (members_of s (object_at σ.objects (get_or σ.top.slots o 0))) (form_at s (object_at σ.objects (get_or σ.top.slots o 0)).form).parts n ≡ some code
      → next_step s σ
      ≡ step (calls (get_or σ.top.slots o 0) (get_or σ.top.slots a 0)) (entered σ is (get_or σ.top.slots o 0) (get_or σ.top.slots a 0) code)
  take_call o n a code e h found =
      call_next o n a true e (lt-ltb (frame_count σ) stack_limit h) ∙ ap (called_step σ is (get_or σ.top.slots o 0) (get_or σ.top.slots a 0)) found

  pub full_stack : (o n a : ℕ) → σ.top.code ≡ call o n a ∷ is → stack_limit ≤ frame_count σ → next_step s σ ≡ stack_full
  full_stack o n a e h = call_next o n a false e (le-ltb (frame_count σ) stack_limit h)

module _ (s : Sheet) (σ : State) where
  left_none : σ.top.code ≡ [] → next_step s σ ≡ return_step σ σ.below
  unfolding next_step code_step
  left_none e = ap (code_step s σ) e

  pub take_return : (f : Frame) (fs : List Frame) → σ.top.code ≡ [] → σ.below ≡ f ∷ fs
      → next_step s σ ≡ step (returns (last_of σ.top.slots)) (record { objects = σ.objects; top = filled f (last_of σ.top.slots); below = fs })
  unfolding return_step
  take_return f fs e below = left_none e ∙ ap (return_step σ) below

  pub take_end : σ.top.code ≡ [] → σ.below ≡ [] → next_step s σ ≡ finished (last_of σ.top.slots)
  unfolding return_step
  take_end e below = left_none e ∙ ap (return_step σ) below

-- ONE TURN OF THE RUN

-- what is not finished when the budget is used up is spent
not_done : (x : Next) → is_finished x ≡ false → budget_used x ≡ Spent
not_done (finished v) e = clash (cc)
not_done (step a σ) e = refl
not_done store_full e = refl
not_done stack_full e = refl
not_done lacking e = refl

module _ (s : Sheet) (σ : State) where
  -- with budget left, by what comes next
  turn : (left n : ℕ) (x : Next) → next_step s σ ≡ x → run_from s (suc left) n σ ≡ go_on x n σ (λ σ'. run_from s left (suc n) σ')
  unfolding run_from
  turn left n x e = ap (λ (y : Next). go_on y n σ (λ σ'. run_from s left (suc n) σ')) e

  pub run_done : (left n v : ℕ) → next_step s σ ≡ finished v → run_from s left n σ ≡ ended Done n σ
  unfolding run_from
  run_done zero n v e = ap (λ (x : Next). ended (budget_used x) n σ) e
  run_done (suc left) n v e = turn left n (finished v) e

  pub run_spent : (n : ℕ) → is_finished (next_step s σ) ≡ false → run_from s 0 n σ ≡ ended Spent n σ
  unfolding run_from
  run_spent n e = ap (λ (o : Outcome). ended o n σ) (not_done (next_step s σ) e)

  pub run_store : (left n : ℕ) → next_step s σ ≡ store_full → run_from s (suc left) n σ ≡ ended StoreFull n σ
  run_store left n e = turn left n store_full e

  pub run_stack : (left n : ℕ) → next_step s σ ≡ stack_full → run_from s (suc left) n σ ≡ ended StackFull n σ
  run_stack left n e = turn left n stack_full e

  pub run_step : (left n : ℕ) (a : Action) (σ' : State) → next_step s σ ≡ step a σ' → run_from s (suc left) n σ ≡ run_from s left (suc n) σ'
  run_step left n a σ' e = turn left n (step a σ') e

-- a state with an instruction left is not finished

cond_goes : (b : Bool) (x y : Next) → is_finished x ≡ false → is_finished y ≡ false → is_finished (cond b x y) ≡ false
cond_goes true x y p q = p
cond_goes false x y p q = q

module _ (s : Sheet) (σ : State) (is : List Instr) where
  called_goes : (receiver argument : ℕ) (code : Option (List Instr)) → is_finished (called_step σ is receiver argument code) ≡ false
  called_goes receiver argument none = refl
  called_goes receiver argument (some code) = refl

  got_goes : (o : ℕ) (place : Option ℕ) → is_finished (got_step σ is o place) ≡ false
  got_goes o none = refl
  got_goes o (some i) = refl

  get_goes : (own : Option ℕ) (n : ℕ) → is_finished (get_step s σ is own n) ≡ false
  get_goes none n = refl
  get_goes (some o) n = got_goes o (field_place (members_of s (object_at σ.objects o)) n)

  has_put_goes : (o v : ℕ) (place : Option ℕ) → is_finished (has_put_step σ is o v place) ≡ false
  has_put_goes o v none = refl
  has_put_goes o v (some i) = refl

  put_goes : (own : Option ℕ) (n v : ℕ) → is_finished (put_step s σ is own n v) ≡ false
  put_goes none n v = refl
  put_goes (some o) n v = has_put_goes o v (field_place (members_of s (object_at σ.objects o)) n)

  instr_goes : (i : Instr) → is_finished (instr_step s σ i is) ≡ false
  unfolding instr_step
  instr_goes (new f ss) =
      cond_goes (ltb (length σ.objects) store_limit)
      (step (creates (length σ.objects) (slot_values σ.top.slots ss)) (with_new s σ is f (slot_values σ.top.slots ss))) store_full refl refl
  instr_goes (call o n a) =
      let receiver : ℕ = get_or σ.top.slots o 0 in
      let argument : ℕ = get_or σ.top.slots a 0 in
      let code : Option (List Instr) = body_in (members_of s (object_at σ.objects receiver)) (form_at s (object_at σ.objects receiver).form).parts n in
      cond_goes (ltb (frame_count σ) stack_limit) (called_step σ is receiver argument code) stack_full (called_goes receiver argument code) refl
  instr_goes (get n) = get_goes σ.top.own n
  instr_goes (put n v) = put_goes σ.top.own n (get_or σ.top.slots v 0)
  instr_goes (copy v) = refl

  pub instr_left : (i : Instr) → σ.top.code ≡ i ∷ is → is_finished (next_step s σ) ≡ false
  unfolding next_step code_step
  instr_left i e = ap (λ (c : List Instr). is_finished (code_step s σ c)) e ∙ instr_goes i
