-- Turns, as those see them who do more with the lines.
use Rattle.std.proofs.Common.{◌≡◌, ◌<◌, ◌≤◌, ◌+◌, ◌-◌, ℕ, List, [], ◌∷◌, ◌++◌, length, take}
use Rattle.std.proofs.Common.{Option, Some, None, refl, sym, ap, ◌∙◌, subst, arith, length-append, append_assoc}
use Rattle.std.specs.Prelude.{Result, Ok, Err}
use Rattle.std.proofs.lemmas.List.{length-take}
use Rattle.text_lines.specs.declared.reading.End.{End}
use Rattle.text_lines.specs.declared.reading.End.TheVariants.{Refused, Memory, ReadFault, Limit}
use Rattle.text_lines.specs.Texts.{ended, open_line, whole_lines, lines_of}
use Rattle.text_lines.specs.Reading.{TookFront}
use Rattle.text_lines.specs.Turns.{Turns, LastTurn, InTurn, left_open, due, octets_of}
use Rattle.text_lines.specs.Turns.{AreGiven, TakesTurns, lines_due}
use Rattle.text_lines.proofs.Handing.{Laws}
use Rattle.text_lines.proofs.Few.{all-few, ended-few}
use Rattle.text_lines.proofs.Pieces.{ended-append, open_line-append, whole-within}

-- ---- what is due of octets

left_open-octets : (begun : List ℕ) (pieces : List (List ℕ))
    → left_open begun pieces ≡ open_line begun (octets_of pieces)
left_open-octets begun [] = refl
left_open-octets begun (piece ∷ pieces) =
    left_open-octets (open_line begun piece) pieces
    ∙ sym (open_line-append begun piece (octets_of pieces))

due-lines : (limit : ℕ) (octets piece : List ℕ) → length octets ≤ limit
    → whole_lines octets ++ due (limit - length octets) (open_line [] octets) piece
    ≡ lines_due limit octets piece
due-lines limit octets [] few = refl
due-lines limit octets (x ∷ xs) few = whole-within limit octets (x ∷ xs) few

-- they are few
pub due-few : (limit : ℕ) (octets piece : List ℕ) → length octets ≤ limit
    → length (lines_due limit octets piece) ≤ limit + 1
due-few limit octets [] few = let all = all-few octets in omega (arith, all, few)
due-few limit octets (x ∷ xs) few =
    let most = length-take limit (octets ++ x ∷ xs) in
    let lines = ended-few [] (take limit (octets ++ x ∷ xs)) in
    omega (arith, most, lines)

-- ---- what the last read led to

-- some lines were handed on last
pub record Since {T E : Type 0} (Did : List (List ℕ) → T → T → Result (Unit {0}) E → Type 0) (t t_then : T)
    : Type 0 where
  pub lines : List (List ℕ)
  pub result : Result (Unit {0}) E
  pub did : Did lines t t_then result

-- by the end, what was handed on of octets, and of what the last read gave behind them
abbrev pub DidAll : {T E : Type 0} → (List (List ℕ) → T → T → Result (Unit {0}) E → Type 0) → ℕ
    → List ℕ → Option (List ℕ) → T → T → Result (Unit {0}) (End E) → Type 0
DidAll Did limit octets last t t_then (Ok done) =
    (last ≡ Some []) × Did (lines_of octets) t t_then (Ok tt)
DidAll Did limit octets last t t_then (Err (Refused e)) =
    (piece : List ℕ) × (last ≡ Some piece) × Did (lines_due limit octets piece) t t_then (Err e)
DidAll Did limit octets last t t_then (Err Memory) =
    (piece : List ℕ) × (last ≡ Some piece) × TookFront Did (lines_due limit octets piece) t t_then
DidAll Did limit octets last t t_then (Err ReadFault) =
    (last ≡ None) × Did (whole_lines octets) t t_then (Ok tt)
DidAll Did limit octets last t t_then (Err Limit) =
    (piece : List ℕ) × (last ≡ Some piece) × (limit < length (octets ++ piece))
    × Did (whole_lines (take limit (octets ++ piece))) t t_then (Ok tt)

-- what a reader knows of its turns: octets were given within the limit, and their lines taken; then some
-- were, last; and in all these
pub record Seen {T E : Type 0} (Did : List (List ℕ) → T → T → Result (Unit {0}) E → Type 0) (limit : ℕ)
    (octets : List ℕ) (last : Option (List ℕ)) (t t_then : T) (r : Result (Unit {0}) (End E)) : Type 0
  where
    pub within : length octets ≤ limit
    pub told : T
    pub taken : Did (whole_lines octets) t told (Ok tt)
    pub since : Since Did told t_then
    pub all : DidAll Did limit octets last t t_then r

module _ {S T E : Type 0} (Gave : S → Option (List ℕ) → S → Type 0)
    (Did : List (List ℕ) → T → T → Result (Unit {0}) E → Type 0) (laws : Laws Did) where
  turns-given : (begun : List ℕ) (pieces : List (List ℕ)) (s s_then : S) (t t_then : T)
      → Turns Gave Did begun pieces s s_then t t_then → AreGiven Gave pieces s s_then
  turns-given begun [] s s_then t t_then h = h.0
  turns-given begun ([] ∷ pieces) s s_then t t_then h = absurd h
  turns-given begun ((x ∷ xs) ∷ pieces) s s_then t t_then h =
      (h.0, h.2, turns-given (open_line begun (x ∷ xs)) pieces h.0 s_then h.1 t_then h.4)

  turns-taken : (begun : List ℕ) (pieces : List (List ℕ)) (s s_then : S) (t t_then : T)
      → Turns Gave Did begun pieces s s_then t t_then
      → Did (ended begun (octets_of pieces)) t t_then (Ok tt)
  turns-taken begun [] s s_then t t_then h =
      subst (λ (z : T). Did [] t z (Ok tt)) (sym h.1) (laws.none t)
  turns-taken begun ([] ∷ pieces) s s_then t t_then h = absurd h
  turns-taken begun ((x ∷ xs) ∷ pieces) s s_then t t_then h =
      subst (λ (l : List (List ℕ)). Did l t t_then (Ok tt))
      (sym (ended-append begun (x ∷ xs) (octets_of pieces)))
      (laws.more t h.1 t_then _ _ (Ok tt) h.3
      (turns-taken (open_line begun (x ∷ xs)) pieces h.0 s_then h.1 t_then h.4))

  -- what the last turn gave, and came to
  record Last (limit : ℕ) (octets : List ℕ) (s s_then : S) (t told t_then : T)
      (r : Result (Unit {0}) (End E)) : Type 0 where
    last : Option (List ℕ)
    gave : Gave s last s_then
    since : Since Did told t_then
    all : DidAll Did limit octets last t t_then r

  behind : (octets : List ℕ) (lines due : List (List ℕ)) (t told t_then : T) (r : Result (Unit {0}) E)
      → whole_lines octets ++ lines ≡ due → Did (whole_lines octets) t told (Ok tt)
      → Did lines told t_then r → Did due t t_then r
  behind octets lines due t told t_then r is d e =
      subst (λ (l : List (List ℕ)). Did l t t_then r) is (laws.more t told t_then _ _ r d e)

  came-to : (limit : ℕ) (octets : List ℕ) (s s_then : S) (t told t_then : T)
      (r : Result (Unit {0}) (End E)) → length octets ≤ limit
      → Did (whole_lines octets) t told (Ok tt)
      → LastTurn Gave Did (limit - length octets) (open_line [] octets) s s_then told t_then r
      → Last limit octets s s_then t told t_then r
  came-to limit octets s s_then t told t_then (Ok done) within d h = record {
    last = Some [];
    gave = h.0;
    since = record { lines = _; result = Ok tt; did = h.1 };
    all = (refl, behind octets _ _ t told t_then (Ok tt) refl d h.1);
  }
  came-to limit octets s s_then t told t_then (Err (Refused e)) within d h = record {
    last = Some h.0;
    gave = h.1;
    since = record { lines = _; result = Err e; did = h.2 };
    all = (h.0, refl, behind octets _ _ t told t_then (Err e) (due-lines limit octets h.0 within) d h.2);
  }
  came-to limit octets s s_then t told t_then (Err Memory) within d h =
      let f = h.2 in record {
        last = Some h.0;
        gave = h.1;
        since = record { lines = f.front; result = Ok tt; did = f.did };
        all = (
          h.0,
          refl,
          record {
            front = whole_lines octets ++ f.front;
            rest = f.rest;
            parts = append_assoc (whole_lines octets) f.front f.rest
                ∙ ap (λ (l : List (List ℕ)). whole_lines octets ++ l) f.parts
                ∙ due-lines limit octets h.0 within;
            did = laws.more t told t_then _ _ (Ok tt) d f.did;
          },
        );
      }
  came-to limit octets s s_then t told t_then (Err ReadFault) within d h =
      let same = sym h.1 in record {
        last = None;
        gave = h.0;
        since = record {
          lines = [];
          result = Ok tt;
          did = subst (λ (z : T). Did [] told z (Ok tt)) same (laws.none told);
        };
        all = (refl, subst (λ (z : T). Did (whole_lines octets) t z (Ok tt)) same d);
      }
  came-to limit octets s s_then t told t_then (Err Limit) within d h =
      let piece = h.0 in
      let past = h.2 in
      let long = length-append octets piece in record {
        last = Some piece;
        gave = h.1;
        since = record { lines = _; result = Ok tt; did = h.3 };
        all = (
          piece,
          refl,
          omega (arith, long, past, within),
          behind octets _ _ t told t_then (Ok tt) (whole-within limit octets piece within) d h.3,
        );
      }

  -- turns, told by what holds before the last read, and at the end
  pub together : (Held : List ℕ → Type 0) (Ends : List ℕ → Option (List ℕ) → Type 0) (limit : ℕ)
      (s s_then : S) (t t_then : T) (r : Result (Unit {0}) (End E))
      → ((octets : List ℕ) (last : Option (List ℕ)) → Seen Did limit octets last t t_then r
      → Held octets × Ends octets last) → InTurn Gave Did limit s s_then t t_then r
      → TakesTurns Gave Held Ends s s_then
  together Held Ends limit s s_then t t_then r holds h =
      let octets = octets_of h.pieces in
      let taken = turns-taken [] h.pieces s h.between t h.told h.turns in
      let l = came-to limit octets h.between s_then t h.told t_then r h.within taken
      (subst (λ (c : List ℕ). LastTurn Gave Did (limit - length octets) c h.between s_then h.told t_then r)
      (left_open-octets [] h.pieces) h.last) in
      let both = holds octets l.last (record {
        within = h.within;
        told = h.told;
        taken = taken;
        since = l.since;
        all = l.all;
      }) in record {
        pieces = h.pieces;
        between = h.between;
        given = turns-given [] h.pieces s h.between t h.told h.turns;
        held = both.0;
        last = l.last;
        gave = l.gave;
        ends = both.1;
      }

-- turns of which less is said
pub turns-weaker : {S : Type 0} (Gave : S → Option (List ℕ) → S → Type 0)
    (Held Held_too : List ℕ → Type 0) (Ends Ends_too : List ℕ → Option (List ℕ) → Type 0) (s s_then : S)
    → ((octets : List ℕ) → Held octets → Held_too octets)
    → ((octets : List ℕ) (last : Option (List ℕ)) → Ends octets last → Ends_too octets last)
    → TakesTurns Gave Held Ends s s_then → TakesTurns Gave Held_too Ends_too s s_then
turns-weaker Gave Held Held_too Ends Ends_too s s_then held ends t = record {
  pieces = t.pieces;
  between = t.between;
  given = t.given;
  held = held (octets_of t.pieces) t.held;
  last = t.last;
  gave = t.gave;
  ends = ends (octets_of t.pieces) t.last t.ends;
}
