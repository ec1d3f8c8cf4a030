-- What words say where the first of them is known.
use Rattle.std.proofs.Common.{◌≡◌, ℕ, true, false, List, ◌∷◌, refl, sym, ap, ◌∙◌, subst, inl, Bool}
use Rattle.std.specs.Prelude.{Option, Some, None, Result, Err, codes}
use Rattle.std.specs.Option.{ok_or}
use Rattle.rx_slots.specs.declared.arrival.Arrival.{Arrival}
use Rattle.lan_core.specs.declared.fact.Fact.{Fact}
use Rattle.lan_core.specs.declared.fact.Fact.TheVariants.{Arrived}
use Rattle.trace_text.specs.Words.{is_word}
use Rattle.transcript.specs.declared.fault.FactError.{FactError}
use Rattle.transcript.specs.declared.fault.FactError.TheVariants.{Unread}
use Rattle.transcript.specs.inside.Reading.{parted, taken, station_of, number_of, along, arrival_tree, accepted_tree, refused_tree, malformed_tree, missed_tree, late_tree, data_tree, claim_tree, plain_tree}
use Rattle.transcript.specs.inside.Taking.{Takes, Answers}
use Rattle.transcript.proofs.Said.{the_word}

-- a word was compared with letters
pub tested : (word text letters : List ℕ) (r b : Bool) → r ≡ is_word word text → text ≡ letters → r ≡ b → is_word word letters ≡ b
tested word text letters r b e t h = ap (is_word word) (sym t) ∙ sym e ∙ h

-- the first word, and the words behind it
abbrev Parts : List (List ℕ) → List ℕ → List (List ℕ) → Type 0
Parts words word left = parted words ≡ Some (word, left)

pub malformed : (names : List (List ℕ)) (f : Arrival → Fact) (words left : List (List ℕ)) (word : List ℕ) (o : Option Arrival) → Parts words word left
    → is_word word (codes "malformed") ≡ true → Takes f o (along names (malformed_tree f) left) → Takes f o (along names (refused_tree f) words)
malformed names f words left word o p t h = rw (p, t) h

pub missed : (names : List (List ℕ)) (f : Arrival → Fact) (words left : List (List ℕ)) (word : List ℕ) (o : Option Arrival) → Parts words word left
    → is_word word (codes "malformed") ≡ false → is_word word (codes "own") ≡ false → is_word word (codes "missed") ≡ true
    → Takes f o (along names (missed_tree f) left) → Takes f o (along names (refused_tree f) words)
missed names f words left word o p t0 t1 t2 h = rw (p, t0, t1, t2) h

pub late : (names : List (List ℕ)) (f : Arrival → Fact) (words left : List (List ℕ)) (word : List ℕ) (o : Option Arrival) → Parts words word left
    → is_word word (codes "malformed") ≡ false → is_word word (codes "own") ≡ false → is_word word (codes "missed") ≡ false
    → is_word word (codes "badcheck") ≡ false → is_word word (codes "late") ≡ true → Takes f o (along names (late_tree f) left)
    → Takes f o (along names (refused_tree f) words)
late names f words left word o p t0 t1 t2 t3 t4 h = rw (p, t0, t1, t2, t3, t4) h

-- a value that was there
pub got : {X Y : Type 0} (view : X → Y) (o : Option X) (given : Option Y) (x : X) → Takes view o given → o ≡ Some x → given ≡ Some (view x)
got view o given x takes e = subst (λ p. Takes view p given) e takes

pub accepted : (names : List (List ℕ)) (f : Arrival → Fact) (words left : List (List ℕ)) (word : List ℕ) (r : Result Arrival FactError) → Parts words word left
    → is_word word (codes "accepted") ≡ true → Answers f r (along names (accepted_tree f) left) → Answers f r (along names (arrival_tree f) words)
accepted names f words left word r p t h = rw (p, t) h

or_unread : {X Y : Type 0} (f : X → Y) (o : Option X) (given : Option Y) → Takes f o given → Answers f (ok_or o Unread) given
or_unread f (Some x) given takes = takes
or_unread f None given takes = inl (refl, takes)

not_accepted : (names : List (List ℕ)) (f : Arrival → Fact) (words left : List (List ℕ)) (word : List ℕ) → Parts words word left
    → is_word word (codes "accepted") ≡ false → along names (arrival_tree f) words ≡ along names (refused_tree f) words
not_accepted names f words left word p t = rw (p, t) refl

pub refused : (names : List (List ℕ)) (f : Arrival → Fact) (words left : List (List ℕ)) (word : List ℕ) (o : Option Arrival) (r : Result Arrival FactError)
    → Parts words word left → is_word word (codes "accepted") ≡ false → Takes f o (along names (refused_tree f) words) → r ≡ ok_or o Unread
    → Answers f r (along names (arrival_tree f) words)
refused names f words left word o r p t h e =
    subst (λ (q : Result Arrival FactError). Answers f q (along names (arrival_tree f) words)) (sym e)
    (subst (λ (given : Option Fact). Answers f (ok_or o Unread) given) (sym (not_accepted names f words left word p t))
    (or_unread f o (along names (refused_tree f) words) h))

arrived : (names words w1 w2 : List (List ℕ)) (k s : ℕ) → taken (number_of 32) words ≡ Some (k, w1) → taken (station_of names) w1 ≡ Some (s, w2)
    → along names data_tree words ≡ along names (arrival_tree (λ arrival. Arrived k s arrival)) w2
arrived names words w1 w2 k s e1 e2 = rw (e1, e2) refl

pub arrived_err : (names words w1 w2 : List (List ℕ)) (k s : ℕ) (fault : FactError) → taken (number_of 32) words ≡ Some (k, w1)
    → taken (station_of names) w1 ≡ Some (s, w2)
    → Answers {X = Arrival} (λ arrival. Arrived k s arrival) (Err fault) (along names (arrival_tree (λ arrival. Arrived k s arrival)) w2)
    → Answers {X = Fact} (λ x. x) (Err fault) (along names data_tree words)
arrived_err names words w1 w2 k s fault e1 e2 h =
    subst (λ (given : Option Fact). Answers {X = Fact} (λ x. x) (Err fault) given) (sym (arrived names words w1 w2 k s e1 e2)) h

pub arrived_ok : (names words w1 w2 : List (List ℕ)) (k s : ℕ) (arrival : Arrival) → taken (number_of 32) words ≡ Some (k, w1)
    → taken (station_of names) w1 ≡ Some (s, w2)
    → along names (arrival_tree (λ a. Arrived k s a)) w2 ≡ Some (Arrived k s arrival) → along names data_tree words ≡ Some (Arrived k s arrival)
arrived_ok names words w1 w2 k s arrival e1 e2 h = arrived names words w1 w2 k s e1 e2 ∙ h

-- a line of a claim, whichever kinds of facts have their turn before it
pub claimed : (names : List (List ℕ)) (word : List ℕ) (words : List (List ℕ)) (o : Option Fact)
    → is_word word (codes "claim") ≡ true → Takes {X = Fact} (λ x. x) o (along names claim_tree words)
    → Takes {X = Fact} (λ x. x) o (along names plain_tree (word ∷ words))
claimed names word words o test h =
    subst (λ w. Takes {X = Fact} (λ x. x) o (along names plain_tree (w ∷ words)))
    (sym (the_word word (codes "claim") test)) h
