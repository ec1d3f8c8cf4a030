-- Lines are handed on one after the other.
use Rattle.std.proofs.Common.{◌≡◌, ℕ, suc, ◌==◌, Bool, true, false, List, [], ◌∷◌, ◌++◌, refl, sym, ap, ◌∙◌, subst, append_assoc, arith}
use Rattle.std.specs.Prelude.{Result, Ok, Err, IfErr}
use Rattle.std.proofs.lemmas.List.{append-nil}
use Rattle.std.specs.Result.{IsErrAnd}
use Rattle.std.proofs.lemmas.Result.{err_from_is_err_and}
use Rattle.text_lines.specs.declared.reading.End.{End}
use Rattle.text_lines.specs.declared.reading.End.TheVariants.{Refused, Memory, ReadFault, Limit}
use Rattle.text_lines.specs.Texts.{ended, open_line, without_return}
use Rattle.text_lines.specs.inside.Fed.{Fed, HasNoFeed}

-- the laws of a taker of lines
pub record Laws {T E : Type 0} (Did : List (List ℕ) → T → T → Result (Unit {0}) E → Type 0)
    : Type 0 where
  pub none : (a : T) → Did [] a a (Ok tt)
  pub more : (a b c : T) (xs ys : List (List ℕ)) (r : Result (Unit {0}) E) → Did xs a b (Ok tt)
      → Did ys b c r → Did (xs ++ ys) a c r
  pub early : (a b : T) (xs ys : List (List ℕ)) (e : E) → Did xs a b (Err e)
      → Did (xs ++ ys) a b (Err e)

pub fed-then : {T E : Type 0} (Did : List (List ℕ) → T → T → Result (Unit {0}) E → Type 0)
    (laws : Laws Did) (a b c : T) (xs ys : List (List ℕ)) (r : Result (Unit {0}) (End E))
    → Did xs a b (Ok tt) → Fed Did ys b c r → Fed Did (xs ++ ys) a c r
fed-then Did laws a b c xs ys (Ok done) d f = laws.more a b c xs ys (Ok tt) d f
fed-then Did laws a b c xs ys (Err (Refused e)) d f = laws.more a b c xs ys (Err e) d f
fed-then Did laws a b c xs ys (Err Memory) d f = record {
  front = xs ++ f.front;
  rest = f.rest;
  parts = append_assoc xs f.front f.rest ∙ ap (λ (l : List (List ℕ)). xs ++ l) f.parts;
  did = laws.more a b c xs f.front (Ok tt) d f.did;
}
fed-then Did laws a b c xs ys (Err ReadFault) d f = f
fed-then Did laws a b c xs ys (Err Limit) d f = f

pub fed-early : {T E : Type 0} (Did : List (List ℕ) → T → T → Result (Unit {0}) E → Type 0)
    (laws : Laws Did) (a b : T) (xs ys : List (List ℕ)) (end : End E)
    → Fed Did xs a b (Err end) → Fed Did (xs ++ ys) a b (Err end)
fed-early Did laws a b xs ys (Refused e) f = laws.early a b xs ys e f
fed-early Did laws a b xs ys Memory f = record {
  front = f.front;
  rest = f.rest ++ ys;
  parts = sym (append_assoc f.front f.rest ys) ∙ ap (λ (l : List (List ℕ)). l ++ ys) f.parts;
  did = f.did;
}
fed-early Did laws a b xs ys ReadFault f = f
fed-early Did laws a b xs ys Limit f = f

-- what is left, handed on from here, is the whole from the start
pub record Leads {T E : Type 0} (Did : List (List ℕ) → T → T → Result (Unit {0}) E → Type 0)
    (whole : List (List ℕ)) (old : T) (left : List (List ℕ)) (now : T) : Type 0 where
  pub leads : (new : T) (r : Result (Unit {0}) (End E)) → Fed Did left now new r
      → Fed Did whole old new r

pub handed-on : {T E : Type 0} (Did : List (List ℕ) → T → T → Result (Unit {0}) E → Type 0)
    (lines : List (List ℕ)) (old new : T) (end : End E) (r : Result (Unit {0}) (End E))
    → Fed Did lines old new (Err end) → IsErrAnd r (λ y. y ≡ end) → Fed Did lines old new r
handed-on {E = E} Did lines old new end r d is =
    let p = err_from_is_err_and r is in
    subst (λ (r : Result (Unit {0}) (End E)). Fed Did lines old new r)
    (sym (p.1 ∙ ap (λ (y : End E). Err y) p.2)) d

-- ---- the first line feed

other : (x : ℕ) → ((x == 10) ≡ true → ⊥) → (x == 10) ≡ false
other x never = go (x == 10) refl
  where
    go : (b : Bool) → (x == 10) ≡ b → b ≡ false
    go true e = absurd (never e)
    go false e = refl

first_other : (x : ℕ) (xs : List ℕ) → HasNoFeed (x ∷ xs) → (x == 10) ≡ false
first_other x xs never = other x (never 0 (omega arith))

others : (x : ℕ) (xs : List ℕ) → HasNoFeed (x ∷ xs) → HasNoFeed xs
others x xs never k lt = never (suc k) (omega (arith, lt))

pub ended-at : (begun front rest : List ℕ) → HasNoFeed front
    → ended begun (front ++ 10 ∷ rest) ≡ without_return (begun ++ front) ∷ ended [] rest
ended-at begun [] rest never = rw (append-nil begun) refl
ended-at begun (x ∷ xs) rest never =
    rw (first_other x xs never) (ended-at (begun ++ x ∷ []) xs rest (others x xs never)
    ∙ ap (λ (l : List ℕ). without_return l ∷ ended [] rest) (append_assoc begun (x ∷ []) xs))

pub open-at : (begun front rest : List ℕ) → HasNoFeed front
    → open_line begun (front ++ 10 ∷ rest) ≡ open_line [] rest
open-at begun [] rest never = refl
open-at begun (x ∷ xs) rest never =
    rw (first_other x xs never) (open-at (begun ++ x ∷ []) xs rest (others x xs never))

pub ended-none : (begun text : List ℕ) → HasNoFeed text → ended begun text ≡ []
ended-none begun [] never = refl
ended-none begun (x ∷ xs) never =
    rw (first_other x xs never) (ended-none (begun ++ x ∷ []) xs (others x xs never))

pub open-none : (begun text : List ℕ) → HasNoFeed text → open_line begun text ≡ begun ++ text
open-none begun [] never = sym (append-nil begun)
open-none begun (x ∷ xs) never =
    rw (first_other x xs never)
    (open-none (begun ++ x ∷ []) xs (others x xs never) ∙ append_assoc begun (x ∷ []) xs)

-- ---- a line, and what is left behind it

pub feed-step : {T E : Type 0} (Did : List (List ℕ) → T → T → Result (Unit {0}) E → Type 0)
    (laws : Laws Did) (begun text front rest : List ℕ) (whole : List (List ℕ))
    (old now next : T) → text ≡ front ++ 10 ∷ rest → HasNoFeed front
    → Leads Did whole old (ended begun text) now
    → Fed Did (without_return (begun ++ front) ∷ []) now next (Ok tt)
    → Leads Did whole old (ended [] rest) next
feed-step Did laws begun text front rest whole old now next parts never l d = record {
  leads = λ new r f. l.leads new r (subst (λ (lines : List (List ℕ)). Fed Did lines now new r)
      (sym (ap (ended begun) parts ∙ ended-at begun front rest never))
      (fed-then Did laws now next new _ _ r d f));
}

pub feed-err : {T E : Type 0} (Did : List (List ℕ) → T → T → Result (Unit {0}) E → Type 0)
    (laws : Laws Did) (begun text front rest : List ℕ) (whole : List (List ℕ))
    (old now next : T) (end : End E) → text ≡ front ++ 10 ∷ rest → HasNoFeed front
    → Leads Did whole old (ended begun text) now
    → Fed Did (without_return (begun ++ front) ∷ []) now next (Err end)
    → Fed Did whole old next (Err end)
feed-err Did laws begun text front rest whole old now next end parts never l d =
    l.leads next (Err end) (subst (λ (lines : List (List ℕ)). Fed Did lines now next (Err end))
    (sym (ap (ended begun) parts ∙ ended-at begun front rest never))
    (fed-early Did laws now next _ _ end d))

-- nothing is handed on of octets without a line feed
pub feed-rest : {T E : Type 0} (Did : List (List ℕ) → T → T → Result (Unit {0}) E → Type 0)
    (laws : Laws Did) (begun text : List ℕ) (whole : List (List ℕ)) (old now : T)
    (r : Result (Unit {0}) (End E)) → HasNoFeed text → Leads Did whole old (ended begun text) now
    → IfErr r (λ end. end ≡ Memory) → Fed Did whole old now r
feed-rest {E = E} Did laws begun text whole old now r never l memory =
    l.leads now r (subst (λ (lines : List (List ℕ)). Fed Did lines now now r)
    (sym (ended-none begun text never)) (go r memory))
  where
    go : (r : Result (Unit {0}) (End E)) → IfErr r (λ end. end ≡ Memory) → Fed Did [] now now r
    go (Ok done) m = laws.none now
    go (Err end) m = rw m (record { front = []; rest = []; parts = refl; did = laws.none now })
