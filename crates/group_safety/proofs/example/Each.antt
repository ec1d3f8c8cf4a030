-- What holds of each event of a computed run, and of each of its last moments.
use Rattle.std.proofs.Common.{◌≡◌, ℕ, zero, suc, ◌+◌, ◌≤◌, ◌<◌, Bool, true, false}
use Rattle.std.proofs.Common.{not, List, [], ◌∷◌, ◌++◌, length, refl, ap, sym, ◌∙◌, subst, arith}
use Rattle.std.proofs.Common.{Some}
use Rattle.std.specs.Prelude.{◌==◌, ◌&&◌}
use Rattle.std.specs.List.{list_all}
use Rattle.std.proofs.lemmas.Bool.{cases_lt, and_parts}
use Rattle.lan_base.specs.declared.association_number.AssociationNumber.{AssociationNumber}
use Rattle.mkpdu_codec.specs.declared.announcement.Announcement.{Announcement}
use Rattle.sak_exchange.specs.declared.change.Cause.{Cause}
use Rattle.mka_station.specs.Hearing.{right}
use Rattle.lan_core.specs.declared.event.Event.{Event}
use Rattle.lan_core.specs.declared.event.Event.TheVariants as events
use Rattle.lan_core.specs.declared.fact.Fact.{Fact}
use Rattle.lan_core.specs.declared.fact.Fact.TheVariants as facts
use Rattle.lan_core.specs.Run.{Run, Happening, Profile}
use Rattle.lan_core.specs.Lives.{setup_of}
use Rattle.group_safety.specs.Moments.{upto, At}
use Rattle.group_safety.proofs.Members.{In, in-either, all-in, by_sum}
use Rattle.group_safety.proofs.rollover.AtMoments.{upto-whole, upto-earlier}
use Rattle.group_safety.specs.worked.Group.{settings, id}
use Rattle.group_safety.specs.worked.Deeds.{framed_by}
use Rattle.group_safety.proofs.example.Scene.{IsSayable, sayable-judged}
use Rattle.group_safety.proofs.once.Currents.{some-same}
use Rattle.group_safety.proofs.example.Run.{frames}

-- ---- each event, with its moment

abbrev pub Each : (ℕ → Happening → Type 0) → Run → Type 0
Each P [] = Unit {0}
Each P (x ∷ r) = P (length r) x × Each P r

pub each-at : (P : ℕ → Happening → Type 0) (r : Run) → Each P r → (n : ℕ) (x : Happening) → At r n x
    → n < length r → P n x
each-at P [] each n x at less = absurd (omega arith)
each-at P (y ∷ r) each n x at less =
    by_sum (cases_lt n (length r))
    (λ l. each-at P r each.1 n x
    (sym (upto-earlier (suc n) y r (omega arith)) ∙ at
    ∙ ap (λ q. x ∷ q) (upto-earlier n y r (omega arith))) l)
    (λ le.
    let last : length r ≡ n = omega arith in
    let here : y ∷ r ≡ x ∷ upto n (y ∷ r) = sym (upto-whole (suc n) (y ∷ r) (omega arith)) ∙ at in
    let event : y ≡ x = cc (here) in
    subst (λ m. P m x) last (subst (P (length r)) event each.0))

pub each-passes : (P : ℕ → Happening → Type 0) (p : Happening → Bool)
    → ((n : ℕ) (x : Happening) → p x ≡ true → P n x) → (r : Run) → list_all p r ≡ true → Each P r
each-passes P p gives [] all = tt
each-passes P p gives (x ∷ r) all =
    let parts = and_parts (p x) (list_all p r) all in
    (gives (length r) x parts.0, each-passes P p gives r parts.1)

-- ---- the run now, and before each of so many last events

abbrev pub Along : (Run → Type 0) → ℕ → Run → Type 0
Along Q zero r = Q r
Along Q (suc k) [] = Q []
Along Q (suc k) (x ∷ r) = Q (x ∷ r) × Along Q k r

pub along-at : (Q : Run → Type 0) (k : ℕ) (r : Run) → Along Q k r → (n : ℕ) → length r ≤ n + k
    → n ≤ length r → Q (upto n r)
unfolding upto
along-at Q zero r holds n late within = subst Q (sym (upto-whole n r (omega arith))) holds
along-at Q (suc k) [] holds n late within = holds
along-at Q (suc k) (x ∷ r) holds n late within =
    by_sum (cases_lt n (length (x ∷ r)))
    (λ l. subst Q (sym (upto-earlier n x r (omega arith)))
    (along-at Q k r holds.1 n (omega arith) (omega arith)))
    (λ le. subst Q (sym (upto-whole n (x ∷ r) (omega arith))) holds.0)

-- ---- facts

true-false : false ≡ true → ⊥
true-false e = cc (e)

-- no station starts again
abbrev is_restart : Event → Bool
is_restart (events.Restart s) = true
is_restart e = false

abbrev pub is_no_restart : Happening → Bool
is_no_restart x = not (is_restart x.event)

abbrev pub IsNoRestart : ℕ → Happening → Type 0
IsNoRestart n x = (s : ℕ) → x.event ≡ events.Restart s → ⊥

pub is_no_restart-event : (n : ℕ) (x : Happening) → is_no_restart x ≡ true → IsNoRestart n x
is_no_restart-event n x on s e = true-false (sym (ap (λ w. not (is_restart w)) e) ∙ on)

-- bob doesn't begin the second key
abbrev begins_second : Fact → Bool
begins_second (facts.Began s i an epoch cause) = (s == 1) && (i.number == 2)
begins_second f = false

abbrev pub begins_no_second : Happening → Bool
begins_no_second x = list_all (λ f. not (begins_second f)) x.facts

pub no-second-begins : (x : Happening) → begins_no_second x ≡ true → (an : AssociationNumber)
    (epoch : ℕ) (cause : Cause)
    → In (facts.Began 1 (id 2) an epoch cause) x.facts → ⊥
no-second-begins x none an epoch cause i =
    true-false (all-in (λ f. not (begins_second f)) x.facts none _ i)

-- a frame of key agreement is put on the air
abbrev is_framed : Fact → Bool
is_framed (facts.Framed number s sec octets) = not sec
is_framed f = false

abbrev pub frames_none : List Fact → Bool
frames_none f = list_all (λ y. not (is_framed y)) f

pub frames_none-framed : (f : List Fact) → frames_none f ≡ true → (m t : ℕ) (octets : List ℕ)
    → In (facts.Framed m t false octets) f → ⊥
frames_none-framed f none m t octets i =
    true-false (all-in (λ y. not (is_framed y)) f none _ i)

frame-parts : (m t number s : ℕ) (octets others : List ℕ)
    → facts.Framed m t false octets ≡ facts.Framed number s false others
    → (t ≡ s) × (octets ≡ others)
frame-parts m t number s octets others e = (cc (e), cc (e))

pub sayable-right : (p q : Profile) (b : Announcement) → IsSayable b
    → right (setup_of settings q) (framed_by p b) ≡ Some b
sayable-right p q b good = rw (right, sayable-judged p q b good) refl

-- what the last fact puts on the air
pub last-frame_says : (f : List Fact) (number s : ℕ) (p : Profile) (b : Announcement)
    → frames_none f ≡ true → IsSayable b
    → (m t : ℕ) (octets : List ℕ) (q : Profile) (a : Announcement)
    → In (facts.Framed m t false octets) (f ++ frames number s p b ∷ [])
    → right (setup_of settings q) octets ≡ Some a → (t ≡ s) × (a ≡ b)
last-frame_says f number s p b none good m t octets q a i spelled =
    by_sum (in-either f (frames number s p b ∷ []) (facts.Framed m t false octets) i)
    (λ j. absurd (frames_none-framed f none m t octets j))
    (λ j. by_sum j
    (λ e.
    let parts = frame-parts m t number s octets (framed_by p b) e in (
      parts.0,
      some-same (sym spelled ∙ ap (right (setup_of settings q)) parts.1
          ∙ sayable-right p q b good),
    ))
    (λ k. elim k [ ]))
