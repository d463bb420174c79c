-- What look-ups find: the body of a method in a well-typed form, the place of a field, the own object's field, the last slot. Assumes nothing.
use Prim.Native.Nat.{ℕ, suc, pred, ◌<◌}
use native.Mathlib.Omega.{arith}
use mathlib.Core.Path.{◌≡◌, refl, sym, ap, ◌∙◌, subst}
use mathlib.Core.Bool.{Bool, true, false, cond}
use mathlib.Core.List.{List, [], ◌∷◌}
use mathlib.Core.Option.{Option, some}
use lib.Dec.{eqb}
use lib.ListN.{length, get_or}
use borrow.Author.Tests.{eqb-true}
use Rattle.lists.specs.In.{In, here, there}
use Rattle.lists.specs.Pairwise.{Pairwise, pair}
use Rattle.lists.proofs.Tests.{clash}
use Rattle.sheet_rules.specs.declared.Member.{Member}
use Rattle.sheet_rules.specs.declared.Member.TheVariants.{Method, Field}
use Rattle.sheet_rules.specs.Sheet.{Instr, Part, body, Form, Sheet}
use Rattle.sheet_rules.specs.WellFormed.{WellFormedBody, PartOf}
use Rattle.type_rules.specs.SlotRows.{Signature, method_in, field_in, members_at, Own, own_field, body_rows}
use Rattle.type_rules.specs.Typed.{CodeTyped, PartTyped, typed_init, typed_body}
use Rattle.machine_rules.specs.State.{Object, object_at, last_of}
use Rattle.machine_rules.specs.Step.{body_in, next_place, field_place, members_of}
use Rattle.machine_rules.specs.Sound.{field_rows, Receives, main, object}

-- the body that a form has for a method of its row
pub record HasBody (s : Sheet) (f : Form) (ms : List Member) (ps : List Part) (n : ℕ) (m : Signature) : Type 0 where
  pub member : In (Method n m.argument m.result) ms
  pub code : List Instr
  pub looked_up : body_in ms ps n ≡ some code
  pub typed : CodeTyped s (some f.row) (some m.result) (body_rows f m.argument) code

pub body_found : {s : Sheet} {f : Form} {ms : List Member} {ps : List Part} (n : ℕ) (m : Signature) → Pairwise (PartTyped s f) ms ps
    → method_in ms n ≡ some m → HasBody s f ms ps n m
unfolding method_in body_in
body_found n m Pairwise.none e = clash (cc)
body_found n m (pair (typed_init h) p) e =
    let b = body_found n m p e in
    record { member = there b.member; code = b.code; looked_up = b.looked_up; typed = b.typed }
body_found {s} {f} n m (pair {xs = ms} {ys = ps} (typed_body {n = k} {a = a} {r = r} {is = is} c) p) e = go (eqb k n) refl e (body_found n m p)
  where
    go : (b : Bool) → eqb k n ≡ b → cond b (some (record { argument = a; result = r })) (method_in ms n) ≡ some m
        → (method_in ms n ≡ some m → HasBody s f ms ps n m) → HasBody s f (Method k a r ∷ ms) (body is ∷ ps) n m
    go true q e more =
        let same : k ≡ n = eqb-true k n q in
        let this : record { argument = a; result = r } ≡ m = cc in
        record {
          member = here {y = Method k a r} (cc (same, ap (λ (x : Signature). x.argument) this, ap (λ (x : Signature). x.result) this));
          code = is;
          looked_up = ap (λ (t : Bool). cond t (some is) (body_in ms ps n)) q;
          typed = subst (λ (x : Signature). CodeTyped s (some f.row) (some x.result) (body_rows f x.argument) is) this c;
        }
    go false q e more =
        let b = more e in
        record {
          member = there b.member;
          code = b.code;
          looked_up = ap (λ (t : Bool). cond t (some is) (body_in ms ps n)) q ∙ b.looked_up;
          typed = b.typed;
        }

-- a body that is found is one of the form's parts, and well formed
pub body_formed : {forms keeps : ℕ} {ms : List Member} {ps : List Part} (n : ℕ) (is : List Instr) → Pairwise (PartOf forms keeps) ms ps
    → body_in ms ps n ≡ some is → In (body is) ps × WellFormedBody forms (suc (suc keeps)) is
unfolding body_in
body_formed n is Pairwise.none e = clash (cc)
body_formed n is (pair (PartOf.field h) p) e = let f = body_formed n is p e in (there f.0, f.1)
body_formed {forms} {keeps} n is (pair {xs = ms} {ys = ps} (PartOf.method {n = k} {is = js} w) p) e = go (eqb k n) e (body_formed n is p)
  where
    go : (b : Bool) → cond b (some js) (body_in ms ps n) ≡ some is → (body_in ms ps n ≡ some is → In (body is) ps × WellFormedBody forms (suc (suc keeps)) is)
        → In (body is) (body js ∷ ps) × WellFormedBody forms (suc (suc keeps)) is
    go true e more = let same : js ≡ is = cc in (here (ap body (sym same)), subst (WellFormedBody forms (suc (suc keeps))) same w)
    go false e more = let f = more e in (there f.0, f.1)

-- the place that a field of a row has
pub record HasField (ms : List Member) (n r : ℕ) : Type 0 where
  pub member : In (Field n r) ms
  pub place : ℕ
  pub looked_up : field_place ms n ≡ some place
  pub inside : place < length (field_rows ms)
  pub row : get_or (field_rows ms) place 0 ≡ r

pub field_found : (ms : List Member) (n r : ℕ) → field_in ms n ≡ some r → HasField ms n r
unfolding field_in field_place field_rows
field_found [] n r e = clash (cc)
field_found (Method k a b ∷ ms) n r e =
    let h = field_found ms n r e in
    record { member = there h.member; place = h.place; looked_up = h.looked_up; inside = h.inside; row = h.row }
field_found (Field k b ∷ ms) n r e = go (eqb k n) refl e (field_found ms n r)
  where
    go : (t : Bool) → eqb k n ≡ t → cond t (some b) (field_in ms n) ≡ some r → (field_in ms n ≡ some r → HasField ms n r) → HasField (Field k b ∷ ms) n r
    go true q e more =
        let same : k ≡ n = eqb-true k n q in
        let this : b ≡ r = cc in
        record {
          member = here {y = Field k b} (cc (same, this));
          place = 0;
          looked_up = ap (λ (t : Bool). cond t (some 0) (next_place (field_place ms n))) q;
          inside = omega arith;
          row = this;
        }
    go false q e more =
        let h = more e in
        record {
          member = there h.member;
          place = suc h.place;
          looked_up = ap (λ (t : Bool). cond t (some 0) (next_place (field_place ms n))) q ∙ ap next_place h.looked_up;
          inside = omega (arith, h.inside);
          row = h.row;
        }

-- a frame's own object is there, and its row has field n, of row r
pub data OwnField (s : Sheet) (os : List Object) (n r : ℕ) : Option ℕ → Type 0 where
  of_object : {o : ℕ} → o < length os → field_in (members_of s (object_at os o)) n ≡ some r → OwnField s os n r (some o)

pub own_found : {s : Sheet} {os : List Object} {own : Option ℕ} {a : Own} {result : Option ℕ} (n r : ℕ) → Receives s os own a result
    → own_field s a n ≡ some r → OwnField s os n r own
own_found n r main e = clash (cc)
own_found {s} n r (object h p) e = of_object h (subst (λ (b : ℕ). field_in (members_at s b) n ≡ some r) p e)

pub last_of_at : (xs : List ℕ) → last_of xs ≡ get_or xs (pred (length xs)) 0
unfolding last_of
last_of_at [] = refl
last_of_at (x ∷ []) = refl
last_of_at (x ∷ y ∷ xs) = last_of_at (y ∷ xs)
