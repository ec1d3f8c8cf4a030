-- Pieces are read, and the lines that end in them are taken.
use Rattle.std.proofs.Common.{◌≡◌, ℕ, zero, suc, ◌+◌, ◌-◌, ◌<◌, ◌≤◌, ◌==◌, Bool, true, false, List}
use Rattle.std.proofs.Common.{[], ◌∷◌, ◌++◌, length, take, Option, Some, None, refl, sym, ap}
use Rattle.std.proofs.Common.{◌∙◌, subst, append_assoc, length-append, arith, inl, inr}
use Rattle.std.specs.Prelude.{Result, Ok, Err, cond, nat_le}
use Rattle.std.specs.Result.{IsErrAnd}
use Rattle.std.proofs.lemmas.Result.{err_from_is_err_and}
use Rattle.std.proofs.lemmas.List.{append-nil}
use Rattle.std.proofs.lemmas.List.{take_all, take-append-le}
use Rattle.lan_base.specs.Faults.{Rose}
use Rattle.lan_base.specs.Told.{before, IsUsedUp}
use Rattle.text_lines.specs.declared.reading.End.{End}
use Rattle.text_lines.specs.declared.reading.End.TheVariants.{Refused, Memory, ReadFault, Limit}
use Rattle.text_lines.specs.Texts.{ended, open_line, without_return, whole_lines, last_line, lines_of}
use Rattle.text_lines.specs.Reading.{Sourced, Takes, Ends, Runs, Reads, AreDue, lines_within}
use Rattle.text_lines.specs.Reading.{most_at_once}
use Rattle.text_lines.specs.inside.Fed.{Fed, limited}
use Rattle.text_lines.proofs.Handing.{Laws}

-- ---- a text in two parts

ended-by : (t : Bool) (carry d a b : List ℕ) → ended [] (a ++ b) ≡ ended [] a
    ++ ended (open_line [] a) b → ended d (a ++ b) ≡ ended d a ++ ended (open_line d a) b
    → (cond t (carry ∷ ended [] (a ++ b)) (ended d (a ++ b)))
    ≡ (cond t (carry ∷ ended [] a) (ended d a))
    ++ ended (cond t (open_line [] a) (open_line d a)) b
ended-by true carry d a b e f = ap (λ (l : List (List ℕ)). carry ∷ l) e
ended-by false carry d a b e f = f

pub ended-append : (carry a b : List ℕ) → ended carry (a ++ b) ≡ ended carry a
    ++ ended (open_line carry a) b
ended-append carry [] b = refl
ended-append carry (x ∷ a) b =
    ended-by (x == 10) (without_return carry) (carry ++ x ∷ []) a b (ended-append [] a b)
    (ended-append (carry ++ x ∷ []) a b)

open_line-by : (t : Bool) (d a b : List ℕ) → open_line [] (a ++ b) ≡ open_line (open_line [] a) b
    → open_line d (a ++ b) ≡ open_line (open_line d a) b
    → (cond t (open_line [] (a ++ b)) (open_line d (a ++ b)))
    ≡ open_line (cond t (open_line [] a) (open_line d a)) b
open_line-by true d a b e f = e
open_line-by false d a b e f = f

pub open_line-append : (carry a b : List ℕ) → open_line carry (a ++ b) ≡ open_line (open_line carry a) b
open_line-append carry [] b = refl
open_line-append carry (x ∷ a) b =
    open_line-by (x == 10) (carry ++ x ∷ []) a b (open_line-append [] a b)
    (open_line-append (carry ++ x ∷ []) a b)

before-before : (xs ys : List ℕ) (told : Option (List ℕ))
    → before xs (before ys told) ≡ before (xs ++ ys) told
before-before xs ys None = refl
before-before xs ys (Some rest) = ap (λ (l : List ℕ). Some l) (sym (append_assoc xs ys rest))

before-none : (told : Option (List ℕ)) → before [] told ≡ told
before-none None = refl
before-none (Some rest) = refl

take-both : (n : ℕ) (a b : List ℕ) → take n (a ++ b) ≡ take n a ++ take (n - length a) b
take-both zero a b = let e : 0 - length a ≡ 0 = omega arith in ap (λ (k : ℕ). take k b) (sym e)
take-both (suc n) [] b = let e : suc n - 0 ≡ suc n = omega arith in ap (λ (k : ℕ). take k b) (sym e)
take-both (suc n) (x ∷ a) b =
    let e : suc n - length (x ∷ a) ≡ n - length a = omega arith in
    ap (λ (l : List ℕ). x ∷ l) (take-both n a b)
    ∙ ap (λ (k : ℕ). x ∷ (take n a ++ take k b)) (sym e)

-- the lines that end in a front, and in what follows it within the limit
pub whole-within : (limit : ℕ) (front piece : List ℕ) → length front ≤ limit
    → whole_lines front ++ ended (open_line [] front) (take (limit - length front) piece)
    ≡ whole_lines (take limit (front ++ piece))
whole-within limit front piece few =
    sym (ended-append [] front (take (limit - length front) piece))
    ∙ ap (λ (l : List ℕ). whole_lines (l ++ take (limit - length front) piece))
    (sym (take_all limit front few)) ∙ ap whole_lines (sym (take-both limit front piece))

-- a front was taken from a source, and the lines that end in it from a taker
pub record HasRead {T E : Type 0} (Did : List (List ℕ) → T → T → Result (Unit {0}) E → Type 0)
    (left : Option (List ℕ)) (total : ℕ) (old : T) (now_left : Option (List ℕ)) (carry : List ℕ)
    (now : T) : Type 0 where
  pub front : List ℕ
  pub moved : left ≡ before front now_left
  pub count : total ≡ length front
  pub carry_is : carry ≡ open_line [] front
  pub done : Did (whole_lines front) old now (Ok tt)

pub rose-earlier : (a b now : ℕ) → a ≤ b → Rose b now → Rose a now
rose-earlier a b now le (inl lt) = inl (omega (arith, le, lt))
rose-earlier a b now le (inr full) = inr full

module _ {T E : Type 0} (Did : List (List ℕ) → T → T → Result (Unit {0}) E → Type 0)
    (laws : Laws Did) where
  -- ---- whatever the source tells

  pub read-none : (left : Option (List ℕ)) (now : T) → HasRead Did left 0 now left [] now
  read-none left now = record {
    front = [];
    moved = sym (before-none left);
    count = refl;
    carry_is = refl;
    done = laws.none now;
  }

  pub read-more : (left : Option (List ℕ)) (total : ℕ) (old : T) (now_left next_left : Option (List ℕ))
      (carry piece next_carry : List ℕ) (now next : T) (n : ℕ)
      → HasRead Did left total old now_left carry now → now_left ≡ before piece next_left
      → n ≡ length piece → Fed Did (ended carry piece) now next (Ok tt)
      → next_carry ≡ open_line carry piece
      → HasRead Did left (total + n) old next_left next_carry next
  read-more left total old now_left next_left carry piece next_carry now next n h moved count d is =
      record {
        front = h.front ++ piece;
        moved = h.moved ∙ ap (λ (l : Option (List ℕ)). before h.front l) moved
            ∙ before-before h.front piece next_left;
        count = rw (h.count, count) (sym (length-append h.front piece));
        carry_is = is ∙ ap (λ (c : List ℕ). open_line c piece) h.carry_is
            ∙ sym (open_line-append [] h.front piece);
        done = subst (λ (l : List (List ℕ)). Did l old next (Ok tt))
            (sym (ended-append [] h.front piece))
            (laws.more old now next _ _ (Ok tt) h.done
            (subst (λ (c : List ℕ). Did (ended c piece) now next (Ok tt)) h.carry_is d));
      }

  -- the end of reading, by what the last lines came to
  ends-fed : (limit : ℕ) (source now_source : Sourced) (taken : List ℕ) (lines last : List (List ℕ))
      (now next : T) (end : End E) → AreDue limit taken now_source.left lines
      → Fed Did last now next (Err end)
      → Ends Did limit taken lines last source now_source now next (Err end)
  ends-fed limit source now_source taken lines last now next (Refused e) due d = (due, d)
  ends-fed limit source now_source taken lines last now next Memory due d = (due, d)
  ends-fed limit source now_source taken lines last now next ReadFault due d = absurd d
  ends-fed limit source now_source taken lines last now next Limit due d = absurd d

  -- nothing was taken since: the source failed, or is at its end
  takes-nothing : (limit total : ℕ) (source now_source : Sourced) (left : Option (List ℕ)) (old : T)
      (carry : List ℕ) (now next : T) (last : List (List ℕ)) (r : Result (Unit {0}) (End E))
      (h : HasRead Did source.left total old left carry now) → total ≤ limit → left ≡ now_source.left
      → Ends Did limit h.front (whole_lines h.front ++ last) last source now_source now next r
      → Takes Did limit source now_source old next r
  takes-nothing limit total source now_source left old carry now next last r h within kept e = record {
    earlier = h.front;
    piece = [];
    moved = h.moved ∙ ap (λ (l : Option (List ℕ)). before h.front l) kept
        ∙ ap (λ (l : List ℕ). before l now_source.left) (sym (append-nil h.front));
    within = let c = h.count in omega (arith, c, within);
    at_once = omega arith;
    between = now;
    taken = h.done;
    last = last;
    ends = subst (λ (l : List ℕ). Ends Did limit l (whole_lines h.front ++ last) last source
        now_source now next r) (sym (append-nil h.front)) e;
  }

  pub takes-fault : (limit total : ℕ) (source now_source : Sourced) (left : Option (List ℕ)) (old : T)
      (carry : List ℕ) (now : T) → HasRead Did source.left total old left carry now → total ≤ limit
      → now_source.left ≡ left → Rose source.faults now_source.faults
      → Takes Did limit source now_source old now (Err ReadFault)
  takes-fault limit total source now_source left old carry now h within kept rose =
      takes-nothing limit total source now_source left old carry now now [] (Err ReadFault) h within
      (sym kept) (
        rose,
        let c = h.count in omega (arith, c, within),
        append-nil (whole_lines h.front),
        laws.none now,
      )

  pub takes-end : (limit total count : ℕ) (into : List ℕ) (source now_source : Sourced)
      (left : Option (List ℕ)) (old : T) (carry : List ℕ) (now next : T)
      (r : Result (Unit {0}) (End E)) → HasRead Did source.left total old left carry now → total ≤ limit
      → left ≡ before (take count into) now_source.left → count ≡ 0 → IsUsedUp left
      → Fed Did (last_line carry) now next r → Takes Did limit source now_source old next r
  takes-end limit total count into source now_source left old carry now next r h within moved none used
      d = takes-nothing limit total source now_source left old carry now next (last_line carry) r h
      within kept (go r d)
    where
      kept : left ≡ now_source.left
      kept = moved ∙ ap (λ (n : ℕ). before (take n into) now_source.left) none
          ∙ before-none now_source.left

      few : length h.front ≤ limit
      few = let c = h.count in omega (arith, c, within)

      ended_now : IsUsedUp now_source.left
      ended_now = subst (λ (l : Option (List ℕ)). IsUsedUp l) kept used

      all : whole_lines h.front ++ last_line carry ≡ lines_of h.front
      all = ap (λ (c : List ℕ). whole_lines h.front ++ last_line c) h.carry_is

      go : (r : Result (Unit {0}) (End E)) → Fed Did (last_line carry) now next r
          → Ends Did limit h.front (whole_lines h.front ++ last_line carry) (last_line carry) source
          now_source now next r
      go (Ok done) d = (few, ended_now, all, d)
      go (Err end) d = ends-fed limit source now_source h.front _ _ now next end
          (inr (ended_now, few, all)) d

  -- a piece was taken, of which the limit allows this much
  takes-piece : (limit total : ℕ) (source now_source : Sourced) (left : Option (List ℕ)) (old : T)
      (carry piece allowed : List ℕ) (now next : T) (r : Result (Unit {0}) (End E))
      → (h : HasRead Did source.left total old left carry now) → total ≤ limit
      → left ≡ before piece now_source.left → length piece ≤ most_at_once
      → allowed ≡ take (limit - total) piece
      → ((lines : List (List ℕ)) → lines ≡ whole_lines (take limit (h.front ++ piece))
      → Ends Did limit (h.front ++ piece) lines (ended carry allowed) source now_source now next r)
      → Takes Did limit source now_source old next r
  takes-piece limit total source now_source left old carry piece allowed now next r h within moved short
      is e = record {
        earlier = h.front;
        piece = piece;
        moved = h.moved ∙ ap (λ (l : Option (List ℕ)). before h.front l) moved
            ∙ before-before h.front piece now_source.left;
        within = let c = h.count in omega (arith, c, within);
        at_once = short;
        between = now;
        taken = h.done;
        last = ended carry allowed;
        ends = e (whole_lines h.front ++ ended carry allowed) (
            ap (λ (l : List ℕ). whole_lines h.front ++ ended carry l)
            (is ∙ ap (λ (n : ℕ). take (limit - n) piece) h.count)
            ∙ ap (λ (c : List ℕ). whole_lines h.front ++ ended c (take (limit - length h.front) piece))
            h.carry_is
            ∙ whole-within limit h.front piece (let c = h.count in omega (arith, c, within))
            );
      }

  pub takes-err : (limit total : ℕ) (source now_source : Sourced) (left : Option (List ℕ)) (old : T)
      (carry piece allowed : List ℕ) (now next : T) (end : End E)
      → HasRead Did source.left total old left carry now → total ≤ limit
      → left ≡ before piece now_source.left → length piece ≤ most_at_once
      → allowed ≡ take (limit - total) piece → Fed Did (ended carry allowed) now next (Err end)
      → Takes Did limit source now_source old next (Err end)
  takes-err limit total source now_source left old carry piece allowed now next end h within moved short
      is d = takes-piece limit total source now_source left old carry piece allowed now next (Err end)
      h within moved short is (λ lines due. ends-fed limit source now_source (h.front ++ piece) lines
      (ended carry allowed) now next end (inl due) d)

  pub takes-limited : (limit total : ℕ) (source now_source : Sourced) (left : Option (List ℕ)) (old : T)
      (carry piece allowed : List ℕ) (now next : T) (r : Result (Unit {0}) (End E))
      → HasRead Did source.left total old left carry now → total ≤ limit
      → left ≡ before piece now_source.left → length piece ≤ most_at_once
      → allowed ≡ take (limit - total) piece → limit - total < length piece
      → Fed Did (ended carry allowed) now next r
      → Takes Did limit source now_source old next (limited r)
  takes-limited limit total source now_source left old carry piece allowed now next (Ok done) h within
      moved short is past d = takes-piece limit total source now_source left old carry piece allowed
      now next (Err Limit) h within moved short is (λ lines due. (
        let c = h.count in let l = length-append h.front piece in omega (arith, c, l, within, past),
        due,
        d,
      ))
  takes-limited limit total source now_source left old carry piece allowed now next (Err end) h within
      moved short is past d = takes-err limit total source now_source left old carry piece allowed now
      next end h within moved short is d

  -- what `?` hands on
  pub handed-out : (limit : ℕ) (source now_source : Sourced) (old next : T) (end : End E)
      (r : Result (Unit {0}) (End E)) → Takes Did limit source now_source old next (Err end)
      → IsErrAnd r (λ y. y ≡ end) → Takes Did limit source now_source old next r
  handed-out limit source now_source old next end r d is =
      let p = err_from_is_err_and r is in
      subst (λ (r : Result (Unit {0}) (End E)). Takes Did limit source now_source old next r)
      (sym (p.1 ∙ ap (λ (y : End E). Err y) p.2)) d

  -- ---- of a text that the source tells

  -- lines are a front of others
  record Extends (xs whole : List (List ℕ)) : Type 0 where
    more : List (List ℕ)
    parts : xs ++ more ≡ whole

  whole-extend : (a b : List ℕ) → Extends (whole_lines a) (whole_lines (a ++ b))
  whole-extend a b = record { more = ended (open_line [] a) b; parts = sym (ended-append [] a b) }

  lines-extend : (a b : List ℕ) → Extends (whole_lines a) (lines_of (a ++ b))
  lines-extend a b = record {
    more = ended (open_line [] a) b ++ last_line (open_line [] (a ++ b));
    parts = sym (append_assoc (whole_lines a) _ _)
        ∙ ap (λ (l : List (List ℕ)). l ++ last_line (open_line [] (a ++ b)))
        (sym (ended-append [] a b));
  }

  within-limit : (limit : ℕ) (text : List ℕ) → length text ≤ limit
      → lines_within limit text ≡ lines_of text
  within-limit limit text few = let e : nat_le (length text) limit ≡ true = grind arith in
      ap (λ (b : Bool). cond b (lines_of text) (whole_lines (take limit text))) e

  -- what is due of what was taken are the first lines that count of the text
  due-extend : (limit : ℕ) (taken rest : List ℕ) (lines : List (List ℕ))
      → AreDue limit taken (Some rest) lines → Extends lines (lines_within limit (taken ++ rest))
  due-extend limit taken rest lines (inl is) = subst (λ (l : List (List ℕ)).
      Extends l (lines_within limit (taken ++ rest))) (sym is)
      (go (nat_le (length (taken ++ rest)) limit) refl)
    where
      go : (b : Bool) → nat_le (length (taken ++ rest)) limit ≡ b
          → Extends (whole_lines (take limit taken))
          (cond b (lines_of (taken ++ rest)) (whole_lines (take limit (taken ++ rest))))
      go true e =
          let l : length (taken ++ rest) ≡ length taken + length rest = length-append taken rest in
          let few : length taken ≤ limit = grind (arith, l, e) in
          subst (λ (t : List ℕ). Extends (whole_lines t) (lines_of (taken ++ rest)))
          (sym (take_all limit taken few)) (lines-extend taken rest)
      go false e = subst (λ (t : List ℕ). Extends (whole_lines (take limit taken)) (whole_lines t))
          (sym (take-both limit taken rest)) (whole-extend (take limit taken) _)
  due-extend limit taken rest lines (inr (used, few, is)) =
      let all : taken ++ rest ≡ taken = ap (λ (l : List ℕ). taken ++ l) used ∙ append-nil taken in
      record {
        more = [];
        parts = append-nil lines ∙ is ∙ sym (within-limit limit taken few)
            ∙ ap (λ (t : List ℕ). lines_within limit t) (sym all);
      }

  some-is : (a b : List ℕ) → Some a ≡ Some b → a ≡ b
  some-is a b e = cc

  runs : (limit : ℕ) (text : List ℕ) (left now : Sourced) (old new : T)
      (r : Result (Unit {0}) (End E)) (h : Takes Did limit left now old new r) → (rest : List ℕ)
      → now.left ≡ Some rest → (h.earlier ++ h.piece) ++ rest ≡ text
      → Runs Did limit text left now old new r
  runs limit text left now old new (Ok done) h rest is parts =
      let none : rest ≡ [] = subst (λ (o : Option (List ℕ)). IsUsedUp o) is h.ends.1 in
      let all : h.earlier ++ h.piece ≡ text = sym (append-nil (h.earlier ++ h.piece))
      ∙ ap (λ (l : List ℕ). (h.earlier ++ h.piece) ++ l) (sym none) ∙ parts in (
        subst (λ (t : List ℕ). length t ≤ limit) all h.ends.0,
        is ∙ ap (λ (l : List ℕ). Some l) none,
        subst (λ (l : List (List ℕ)). Did l old new (Ok tt))
            (h.ends.2 ∙ ap (λ (t : List ℕ). lines_of t) all)
            (laws.more old h.between new _ _ (Ok tt) h.taken h.ends.3),
      )
  runs limit text left now old new (Err (Refused e)) h rest is parts =
      let x = due-extend limit (h.earlier ++ h.piece) rest _
      (subst (λ (o : Option (List ℕ)). AreDue limit (h.earlier ++ h.piece) o
      (whole_lines h.earlier ++ h.last)) is h.ends.0) in
      subst (λ (l : List (List ℕ)). Did l old new (Err e))
      (x.parts ∙ ap (λ (t : List ℕ). lines_within limit t) parts)
      (laws.early old new _ x.more e
      (laws.more old h.between new _ _ (Err e) h.taken h.ends.1))
  runs limit text left now old new (Err Memory) h rest is parts =
      let x = due-extend limit (h.earlier ++ h.piece) rest _
      (subst (λ (o : Option (List ℕ)). AreDue limit (h.earlier ++ h.piece) o
      (whole_lines h.earlier ++ h.last)) is h.ends.0) in
      let d = h.ends.1 in record {
        front = whole_lines h.earlier ++ d.front;
        rest = d.rest ++ x.more;
        parts = append_assoc (whole_lines h.earlier) d.front (d.rest ++ x.more)
            ∙ ap (λ (l : List (List ℕ)). whole_lines h.earlier ++ l)
            (sym (append_assoc d.front d.rest x.more)
            ∙ ap (λ (l : List (List ℕ)). l ++ x.more) d.parts)
            ∙ sym (append_assoc (whole_lines h.earlier) h.last x.more) ∙ x.parts
            ∙ ap (λ (t : List ℕ). lines_within limit t) parts;
        did = laws.more old h.between new _ _ (Ok tt) h.taken d.did;
      }
  runs limit text left now old new (Err ReadFault) h rest is parts = (
    h.ends.0,
    (
      h.earlier ++ h.piece,
      h.moved,
      h.ends.1,
      subst (λ (l : List (List ℕ)). Did l old new (Ok tt)) h.ends.2
          (laws.more old h.between new _ _ (Ok tt) h.taken h.ends.3),
    ),
  )
  runs limit text left now old new (Err Limit) h rest is parts = (
    let past = h.ends.0 in let l = length-append (h.earlier ++ h.piece) rest in
        let long : limit < length ((h.earlier ++ h.piece) ++ rest) = omega (arith, past, l) in
        subst (λ (t : List ℕ). limit < length t) parts long,
    let past = h.ends.0 in
        subst (λ (l : List (List ℕ)). Did l old new (Ok tt))
        (h.ends.1 ∙ ap (λ (t : List ℕ). whole_lines t)
        (sym (take-append-le limit (h.earlier ++ h.piece) rest (omega (arith, past))))
        ∙ ap (λ (t : List ℕ). whole_lines (take limit t)) parts)
        (laws.more old h.between new _ _ (Ok tt) h.taken h.ends.2),
  )

  told : (limit : ℕ) (text : List ℕ) (left now : Sourced) (old new : T)
      (r : Result (Unit {0}) (End E)) → left.left ≡ Some text → Takes Did limit left now old new r
      → Runs Did limit text left now old new r
  told limit text left now old new r is h = go now.left refl h.moved
    where
      go : (o : Option (List ℕ)) → now.left ≡ o → left.left ≡ before (h.earlier ++ h.piece) o
          → Runs Did limit text left now old new r
      go None none moved = absurd (let bad : Some text ≡ None = sym is ∙ moved in cc)
      go (Some rest) some moved = runs limit text left now old new r h rest some
          (some-is _ _ (sym moved ∙ is))

  pub reads : (limit : ℕ) (left now : Sourced) (old new : T) (r : Result (Unit {0}) (End E))
      → Takes Did limit left now old new r → Reads Did limit left now old new r
  reads limit left now old new r h = record {
    takes = h;
    runs = λ text is. told limit text left now old new r is h;
  }
