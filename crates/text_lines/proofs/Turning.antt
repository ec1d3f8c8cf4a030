-- One more turn of a reader, and the last one.
use Rattle.std.proofs.Common.{◌≡◌, ◌<◌, ◌≤◌, ◌+◌, ◌-◌, ℕ, List, [], ◌∷◌, ◌++◌, length}
use Rattle.std.proofs.Common.{take, Option, Some, refl, sym, ap, ◌∙◌, subst, arith, length-append}
use Rattle.std.specs.Prelude.{Result, Ok, Err}
use Rattle.std.specs.Result.{IsErrAnd}
use Rattle.std.proofs.lemmas.Result.{err_from_is_err_and}
use Rattle.std.proofs.lemmas.List.{take_all}
use Rattle.text_lines.specs.declared.reading.End.{End}
use Rattle.text_lines.specs.declared.reading.End.TheVariants.{Refused, Memory, ReadFault, Limit}
use Rattle.text_lines.specs.Texts.{ended, open_line, last_line}
use Rattle.text_lines.specs.Reading.{TookFront}
use Rattle.text_lines.specs.Turns.{Turns, LastTurn, InTurn, left_open, due, octets_of}
use Rattle.text_lines.specs.inside.Fed.{Fed, limited}
use Rattle.text_lines.proofs.Handing.{Laws}

-- ---- what pieces leave open, and make due

left_open-add : (pieces : List (List ℕ)) (begun piece : List ℕ)
    → left_open begun (pieces ++ piece ∷ []) ≡ open_line (left_open begun pieces) piece
left_open-add [] begun piece = refl
left_open-add (first ∷ pieces) begun piece = left_open-add pieces (open_line begun first) piece

count-add : (pieces : List (List ℕ)) (piece : List ℕ)
    → length (octets_of (pieces ++ piece ∷ [])) ≡ length (octets_of pieces) + length piece
count-add [] piece = let l = length-append piece [] in omega (arith, l)
count-add (first ∷ pieces) piece =
    let all = length-append first (octets_of (pieces ++ piece ∷ [])) in
    let one = length-append first (octets_of pieces) in
    let rest = count-add pieces piece in
    omega (arith, all, one, rest)

due-some : (room : ℕ) (begun piece : List ℕ) → 0 < length piece
    → ended begun (take room piece) ≡ due room begun piece
due-some room begun [] some = absurd (omega (arith, some))
due-some room begun (x ∷ xs) some = refl

-- ---- turns

-- whole turns, from one moment to another, how many octets they gave, and the line that they left open
pub record Turned {S T E : Type 0} (Gave : S → Option (List ℕ) → S → Type 0)
    (Did : List (List ℕ) → T → T → Result (Unit {0}) E → Type 0) (s s_then : S) (total : ℕ)
    (carry : List ℕ) (t t_then : T) : Type 0 where
  pub pieces : List (List ℕ)
  pub count : total ≡ length (octets_of pieces)
  pub carry_is : carry ≡ left_open [] pieces
  pub turns : Turns Gave Did [] pieces s s_then t t_then

module _ {S T E : Type 0} (Gave : S → Option (List ℕ) → S → Type 0)
    (Did : List (List ℕ) → T → T → Result (Unit {0}) E → Type 0) (laws : Laws Did) where
  add-turn : (pieces : List (List ℕ)) (piece begun : List ℕ) (s a s_then : S) (t b t_then : T)
      → 0 < length piece → Turns Gave Did begun pieces s a t b → Gave a (Some piece) s_then
      → Did (ended (left_open begun pieces) piece) b t_then (Ok tt)
      → Turns Gave Did begun (pieces ++ piece ∷ []) s s_then t t_then
  add-turn [] [] begun s a s_then t b t_then some h gave d = absurd (omega (arith, some))
  add-turn [] (x ∷ xs) begun s a s_then t b t_then some h gave d = (
    s_then,
    t_then,
    subst (λ (z : S). Gave z (Some (x ∷ xs)) s_then) h.0 gave,
    subst (λ (z : T). Did (ended begun (x ∷ xs)) z t_then (Ok tt)) h.1 d,
    (refl, refl),
  )
  add-turn ([] ∷ pieces) piece begun s a s_then t b t_then some h gave d = absurd h
  add-turn ((y ∷ ys) ∷ pieces) piece begun s a s_then t b t_then some h gave d = (
    h.0,
    h.1,
    h.2,
    h.3,
    add-turn pieces piece (open_line begun (y ∷ ys)) h.0 a s_then h.1 b t_then some h.4 gave d,
  )

  pub no-turn : (s : S) (t : T) → Turned Gave Did s s 0 [] t t
  no-turn s t = record { pieces = []; count = refl; carry_is = refl; turns = (refl, refl) }

  pub one-more : (piece carry next_carry : List ℕ) (s a s_then : S) (total n : ℕ) (t b t_then : T)
      → 0 < length piece → n ≡ length piece → Turned Gave Did s a total carry t b
      → Gave a (Some piece) s_then → Fed Did (ended carry piece) b t_then (Ok tt)
      → next_carry ≡ open_line carry piece
      → Turned Gave Did s s_then (total + n) next_carry t t_then
  one-more piece carry next_carry s a s_then total n t b t_then some long h gave d is = record {
    pieces = h.pieces ++ piece ∷ [];
    count = let c = h.count in let l = count-add h.pieces piece in omega (arith, c, l, long);
    carry_is = is ∙ ap (λ (c : List ℕ). open_line c piece) h.carry_is
        ∙ sym (left_open-add h.pieces [] piece);
    turns = add-turn h.pieces piece [] s a s_then t b t_then some h.turns gave
        (subst (λ (c : List ℕ). Did (ended c piece) b t_then (Ok tt)) h.carry_is d);
  }

  pub at-last : (limit total : ℕ) (carry : List ℕ) (s a s_then : S) (t b t_then : T)
      (r : Result (Unit {0}) (End E)) → total ≤ limit → Turned Gave Did s a total carry t b
      → LastTurn Gave Did (limit - total) carry a s_then b t_then r
      → InTurn Gave Did limit s s_then t t_then r
  at-last limit total carry s a s_then t b t_then r within h last = record {
    pieces = h.pieces;
    within = let c = h.count in omega (arith, c, within);
    between = a;
    told = b;
    turns = h.turns;
    last = subst (λ (n : ℕ). LastTurn Gave Did (limit - n) (left_open [] h.pieces) a s_then b t_then r) h.count
        (subst (λ (c : List ℕ). LastTurn Gave Did (limit - total) c a s_then b t_then r) h.carry_is last);
  }

  last-err : (room : ℕ) (begun piece : List ℕ) (lines : List (List ℕ)) (a s_then : S) (b t_then : T)
      (end : End E) → lines ≡ due room begun piece → Gave a (Some piece) s_then
      → Fed Did lines b t_then (Err end) → LastTurn Gave Did room begun a s_then b t_then (Err end)
  last-err room begun piece lines a s_then b t_then (Refused e) is gave d =
      (piece, gave, subst (λ (l : List (List ℕ)). Did l b t_then (Err e)) is d)
  last-err room begun piece lines a s_then b t_then Memory is gave d =
      (piece, gave, subst (λ (l : List (List ℕ)). TookFront Did l b t_then) is d)
  last-err room begun piece lines a s_then b t_then ReadFault is gave d = absurd d
  last-err room begun piece lines a s_then b t_then Limit is gave d = absurd d

  pub last-end : (room : ℕ) (begun : List ℕ) (count : ℕ) (into : List ℕ) (a s_then : S) (b t_then : T)
      (r : Result (Unit {0}) (End E)) → count ≡ 0 → Gave a (Some (take count into)) s_then
      → Fed Did (last_line begun) b t_then r → LastTurn Gave Did room begun a s_then b t_then r
  last-end room begun count into a s_then b t_then r none gave d = go r d
    where
      ended_now : Gave a (Some []) s_then
      ended_now = subst (λ (n : ℕ). Gave a (Some (take n into)) s_then) none gave

      go : (r : Result (Unit {0}) (End E)) → Fed Did (last_line begun) b t_then r
          → LastTurn Gave Did room begun a s_then b t_then r
      go (Ok done) d = (ended_now, d)
      go (Err end) d = last-err room begun [] (last_line begun) a s_then b t_then end refl ended_now d

  -- a piece was given, and what there is room for of it fed
  last-fed : (room : ℕ) (begun piece front : List ℕ) (a s_then : S) (b t_then : T) (end : End E)
      → 0 < length piece → front ≡ take room piece → Gave a (Some piece) s_then
      → Fed Did (ended begun front) b t_then (Err end)
      → LastTurn Gave Did room begun a s_then b t_then (Err end)
  last-fed room begun piece front a s_then b t_then end some is gave d =
      last-err room begun piece (ended begun front) a s_then b t_then end
      (ap (ended begun) is ∙ due-some room begun piece some) gave d

  pub last-limited : (room : ℕ) (begun piece front : List ℕ) (a s_then : S) (b t_then : T)
      (r : Result (Unit {0}) (End E)) → room < length piece → front ≡ take room piece
      → Gave a (Some piece) s_then → Fed Did (ended begun front) b t_then r
      → LastTurn Gave Did room begun a s_then b t_then (limited r)
  last-limited room begun piece front a s_then b t_then (Ok done) past is gave d =
      (piece, gave, past, subst (λ (l : List ℕ). Did (ended begun l) b t_then (Ok tt)) is d)
  last-limited room begun piece front a s_then b t_then (Err end) past is gave d =
      last-fed room begun piece front a s_then b t_then end (omega (arith, past)) is gave d

  -- what `?` hands on of a whole piece
  pub last-out : (room : ℕ) (begun piece : List ℕ) (a s_then : S) (b t_then : T) (end : End E)
      (r : Result (Unit {0}) (End E)) → 0 < length piece → length piece ≤ room → Gave a (Some piece) s_then
      → Fed Did (ended begun piece) b t_then (Err end) → IsErrAnd r (λ y. y ≡ end)
      → LastTurn Gave Did room begun a s_then b t_then r
  last-out room begun piece a s_then b t_then end r some fits gave d is =
      let p = err_from_is_err_and r is in
      subst (λ (r : Result (Unit {0}) (End E)). LastTurn Gave Did room begun a s_then b t_then r)
      (sym (p.1 ∙ ap (λ (y : End E). Err y) p.2))
      (last-fed room begun piece piece a s_then b t_then end some (sym (take_all room piece fits)) gave d)
