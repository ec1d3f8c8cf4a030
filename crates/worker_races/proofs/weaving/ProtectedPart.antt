-- The frames that a woven part takes from the logs are those of its claims, under the keys that
-- transmitted: those are the keys that the stations installed with the claims' epochs.
use Rattle.std.proofs.Common.{◌≡◌, ◌+◌, ℕ, zero, suc, Bool, true, false, eqb, List, [], ◌∷◌, ◌++◌, map}
use Rattle.std.proofs.Common.{Option, Some, None, refl, sym, ap, ◌∙◌, subst, arith}
use Rattle.std.specs.Prelude.{option_map, option_and_then, slice_get}
use Rattle.std.specs.List.{AllByRecursion}
use Rattle.std.proofs.lemmas.Bool.{cond-false}
use Rattle.std.proofs.lemmas.List.{map-append}
use Rattle.lan_base.specs.declared.association_number.AssociationNumber.{AssociationNumber}
use Rattle.lan_base.specs.declared.frame.Protected.{Protected}
use Rattle.lan_base.specs.declared.frame.UserFrame.{UserFrame}
use Rattle.aes_block.specs.Secrets.{secret_octets}
use Rattle.gcm_frames.specs.Protected.{protected}
use Rattle.sak_exchange.specs.declared.held_key.Key.{Key}
use Rattle.association_slots.specs.declared.card.Card.{Card}
use Rattle.data_workers.specs.declared.entry.Entry.{Entry}
use Rattle.data_workers.specs.declared.entry.Entry.TheVariants.{Taken, Refused}
use Rattle.lan_core.specs.declared.event.Event.{Event}
use Rattle.lan_core.specs.declared.event.Event.TheVariants as events
use Rattle.lan_core.specs.declared.fact.Fact.TheVariants as facts
use Rattle.lan_core.specs.declared.settings.Settings.{Settings}
use Rattle.lan_core.specs.Run.{Run, Happening, Profile, started, stations}
use Rattle.lan_core.specs.Lives.{life, transmitting_at}
use Rattle.lan_core.specs.Claims.{Waiting, claimed_by, waiting_under, user_at, frame_by, frame_of_claim}
use Rattle.lan_core.specs.Expected.{claim_fact}
use Rattle.lan_core.specs.Legal.{IsStepped}
use Rattle.lan_core.specs.Parts.{followed_by, is_claim, without_claims, claimed_in, protected_for, AreProtected}
use Rattle.lan_core.proofs.Public.{IsClaim, is-claim, alike-itself, stepped-front}
use Rattle.group_safety.proofs.Public.{get-more}
use Rattle.worker_races.specs.merge.Merged.{nth_log}
use Rattle.worker_races.specs.merge.Steps.{attempt_of, logs_of, counted_from}
use Rattle.worker_races.specs.merge.Weaving.{AreClaimsOf, IsClaimOf, IsOfLog, IsWoven}
use Rattle.worker_races.specs.merge.Taking.{frame_in, without_next, taken_by, left_by, frames_of}
use Rattle.worker_races.specs.merge.Sealing.{HasInstalled, AreCards, IsSealedUnder, IfFrame, AreSealed}
use Rattle.worker_races.proofs.weaving.Installed.{in-life, installed-later, installed-now, installed-without}
use Rattle.worker_races.proofs.weaving.LogsLeft.{Left, leaves, takes, claims_for, next-is, nth-left, nth-logs, told-front}

-- ---- a station stays where it is

placed-later : (part : List Happening) (q : Run) (s : ℕ) (p : Profile) → slice_get (stations q) s ≡ Some p
    → slice_get (stations (followed_by part q)) s ≡ Some p
unfolding stations
placed-later [] q s p is = is
placed-later (x ∷ part) q s p is = placed-later part (x ∷ q) s p (get-more (stations q) (started x.event) s p is)

-- ---- logs that were sealed

sealed-nth : (users : List UserFrame) (cards : ℕ → ℕ → Card) (r : Run) (k u : ℕ) (logs : List (List Entry)) → AreSealed users cards r k logs
    → AllByRecursion (IfFrame (IsSealedUnder users cards r (k + u))) (nth_log u logs)
sealed-nth users cards r k zero [] are = tt
sealed-nth users cards r k (suc u) [] are = tt
sealed-nth users cards r k zero (log ∷ logs) are =
    subst (λ n. AllByRecursion (IfFrame (IsSealedUnder users cards r n)) log) (right k) are.0
  where
    right : (k : ℕ) → k ≡ k + 0
    right k = omega arith
sealed-nth users cards r k (suc u) (log ∷ logs) are =
    subst (λ n. AllByRecursion (IfFrame (IsSealedUnder users cards r n)) (nth_log u logs)) (over k u) (sealed-nth users cards r (suc k) u logs are.1)
  where
    over : (k u : ℕ) → suc k + u ≡ k + suc u
    over k u = omega arith

-- ---- one claim

-- a claim that told of a number was made under the key that transmitted
pub record IsUnder (settings : Settings) (s : ℕ) (q : Run) (an : AssociationNumber) (epoch : ℕ) : Type 0 where
  pub key : Key
  pub sends : transmitting_at settings s q ≡ Some key
  pub same_an : key.an ≡ an
  pub same_epoch : key.epoch ≡ epoch

under-key : (settings : Settings) (q : Run) (s pn : ℕ) (an : AssociationNumber) (epoch n : ℕ) (o : Option Key) → transmitting_at settings s q ≡ o
    → claim_fact settings s q pn o ≡ facts.Claimed s an epoch n → (eqb pn 0 ≡ false) × IsUnder settings s q an epoch
under-key settings q s pn an epoch n o is told = go (eqb pn 0) refl o is told
  where
    go : (b : Bool) → eqb pn 0 ≡ b → (o : Option Key) → transmitting_at settings s q ≡ o → claim_fact settings s q pn o ≡ facts.Claimed s an epoch n
        → (eqb pn 0 ≡ false) × IsUnder settings s q an epoch
    go true e None is told = absurd (let w = rw e at told in cc w)
    go true e (Some k) is told = absurd (let w = rw e at told in cc w)
    go false e None is told = absurd (let w = rw e at told in cc w)
    go false e (Some k) is told =
        let w : facts.Claimed s k.an k.epoch pn ≡ facts.Claimed s an epoch n = rw e at told in
        (e, record { key = k; sends = is; same_an = cc w; same_epoch = cc w })

module _ (settings : Settings) (users : List UserFrame) (cards : ℕ → ℕ → Card) (whole : Run) (are : AreCards settings cards whole)
  where
    -- a frame of a log is that of its claim
    frame-is : (r : Run) (number : ℕ) (p : Protected) (k : Key) → IsSealedUnder users cards r number p
        → ((s : ℕ) (q : Profile) → slice_get (stations r) s ≡ Some q → slice_get (stations whole) s ≡ Some q)
        → HasInstalled settings p.station k whole → k.an ≡ p.an → k.epoch ≡ p.epoch
        → protected_for users whole (record { station = p.station; key = k; pn = p.pn; user = number }) ≡ Some p
    frame-is r number p k seal later has same_an same_epoch =
        let w : Waiting = record { station = p.station; key = k; pn = p.pn; user = number } in
        let card : cards p.station p.epoch ≡ record { sak = k.sak; conf = k.conf } =
        ap (cards p.station) (sym same_epoch) ∙ are p.station k has in
        let octets : frame_by w seal.profile seal.user ≡ p.octets =
        sym (seal.octets
        ∙ (ap (λ (c : Card). protected (secret_octets c.sak) seal.profile.sci p.an p.pn c.conf seal.user) card
        ∙ ap (λ a. protected (secret_octets k.sak) seal.profile.sci a p.pn k.conf seal.user) (sym same_an))) in
        let frame : frame_of_claim users whole w ≡ Some p.octets =
        ap (option_and_then (λ q. option_map (frame_by w q) (user_at users number))) (later p.station seal.profile seal.placed)
        ∙ (ap (option_map (frame_by w seal.profile)) seal.named ∙ ap Some octets) in
        ap (option_map (λ (octets : List ℕ). made w octets)) frame ∙ ap Some (whole-of k same_an same_epoch)
      where
        made : Waiting → List ℕ → Protected
        made w octets = record { station = w.station; an = w.key.an; epoch = w.key.epoch; pn = w.pn; octets = octets }

        whole-of : (k : Key) → k.an ≡ p.an → k.epoch ≡ p.epoch → made (record { station = p.station; key = k; pn = p.pn; user = number }) p.octets ≡ p
        whole-of k a e = rw (a, e) refl

    none-waits : (s user : ℕ) (o : Option Key) → waiting_under s user 0 o ≡ []
    none-waits s user None = refl
    none-waits s user (Some k) = refl

    one-waits : (s user pn : ℕ) (o : Option Key) (k : Key) → o ≡ Some k → eqb pn 0 ≡ false
        → waiting_under s user pn o ≡ record { station = s; key = k; pn = pn; user = user } ∷ []
    one-waits s user pn o k is some = rw is (cond-false (eqb pn 0) _ _ some)

    no-claim : (q : Run) (e : Event) → is_claim e ≡ false → claimed_by settings q e ≡ []
    no-claim q (events.Claim s user pn) none = absurd (cc none)
    no-claim q e none = refl

    -- ---- the frames of a part, by the logs that are left

    module _ (r : Run) (base : ℕ) (later : (s : ℕ) (p : Profile) → slice_get (stations r) s ≡ Some p → slice_get (stations whole) s ≡ Some p) where
      abbrev AreSealedFor : ℕ → List Entry → Type 0
      AreSealedFor u log = AllByRecursion (IfFrame (IsSealedUnder users cards r (base + u + 1))) log

      -- what an entry holds is what its claim waits for
      one-is : (h : Happening) (part : List Happening) (q : Run) (u : ℕ) (x : Entry) → followed_by (h ∷ part) q ≡ whole
          → IsStepped settings users (followed_by (h ∷ part) q) → IsClaimOf base (attempt_of u x) h → IfFrame (IsSealedUnder users cards r (base + u + 1)) x
          → map Some (frame_in (Some x)) ≡ map (protected_for users whole) (claimed_by settings q h.event)
      one-is h part q u (Refused s why) is stepped own seal =
          ap (map (protected_for users whole)) (sym (ap (claimed_by settings q) own.event ∙ none-waits s (base + u + 1) (transmitting_at settings s q)))
      one-is h part q u (Taken p) is stepped own seal =
          let step = (stepped-front settings users part (h ∷ q) stepped).0 in
          let facts_are : claim_fact settings p.station q p.pn (transmitting_at settings p.station q) ∷ [] ≡ h.facts =
          subst (IsClaim settings q h.facts) own.event (is-claim settings users q h.event h.facts step.shows) in
          let both : claim_fact settings p.station q p.pn (transmitting_at settings p.station q) ∷ [] ≡ facts.Claimed p.station p.an p.epoch p.pn ∷ [] =
          facts_are ∙ own.taken refl in
          let under = under-key settings q p.station p.pn p.an p.epoch p.pn (transmitting_at settings p.station q) refl (cc both) in
          let k = under.1.key in
          let has : HasInstalled settings p.station k whole =
          subst (HasInstalled settings p.station k) is (installed-later settings p.station k (h ∷ part) q
          (installed-now settings p.station k q (in-life k (life settings p.station q) under.1.sends))) in
          let frame = frame-is r (base + u + 1) p k seal later has under.1.same_an under.1.same_epoch in
          let waits : claimed_by settings q h.event ≡ record { station = p.station; key = k; pn = p.pn; user = base + u + 1 } ∷ [] =
          ap (claimed_by settings q) own.event ∙ one-waits p.station (base + u + 1) p.pn (transmitting_at settings p.station q) k under.1.sends under.0 in
          ap (λ f. f ∷ []) (sym frame) ∙ ap (map (protected_for users whole)) (sym waits)

      part-is : (part : List Happening) (es : List Event) (logs : List (List Entry)) (q : Run)
          → followed_by part q ≡ whole → IsStepped settings users (followed_by part q)
          → map (λ h. h.event) part ≡ map (counted_from base) es → AllByRecursion (IsOfLog base) part
          → Left base part logs → ((u : ℕ) → AreSealedFor u (nth_log u logs))
          → map Some (frames_of es logs) ≡ map (protected_for users whole) (claimed_in settings part q)
      unfolding frames_of
      part-is [] [] logs q is stepped told of claims seals = refl
      part-is [] (e ∷ es) logs q is stepped told of claims seals = absurd (cc told)
      part-is (h ∷ part) [] logs q is stepped told of claims seals = absurd (cc told)
      part-is (h ∷ part) (e ∷ es) logs q is stepped told of claims seals =
          let front = told-front base h part e es told in
          let rest = λ (ls : List (List Entry)) (left : Left base part ls) (sealed : (u : ℕ) → AreSealedFor u (nth_log u ls)).
          part-is part es ls (h ∷ q) is stepped front.1 of.1 left sealed in
          elim (next-is base h part e logs front.0 of.0 claims) [
            | leaves same none left taken after ↦ both logs after
                (ap (map Some) taken ∙ ap (map (protected_for users whole)) (sym (ap (claimed_by settings q) same ∙ no-claim q e none)))
                (rest logs left seals)
            | takes u x more at own left taken after ↦ (
                let mine = subst (AreSealedFor u) at (seals u) in
                both (without_next u logs) after (ap (map Some) taken ∙ one-is h part q u x is stepped own mine.0)
                (rest (without_next u logs) left (nth-left AreSealedFor u x more logs at mine.1 (λ v other. seals v))))
          ]
        where
          both : (ls : List (List Entry)) → left_by e logs ≡ ls
              → map Some (taken_by e logs) ≡ map (protected_for users whole) (claimed_by settings q h.event)
              → map Some (frames_of es ls) ≡ map (protected_for users whole) (claimed_in settings part (h ∷ q))
              → map Some (taken_by e logs ++ frames_of es (left_by e logs))
              ≡ map (protected_for users whole) (claimed_by settings q h.event ++ claimed_in settings part (h ∷ q))
          both ls after here later =
              map-append Some (taken_by e logs) (frames_of es (left_by e logs))
              ∙ ((λ i. here i ++ (ap (λ l. map Some (frames_of es l)) after ∙ later) i)
              ∙ sym (map-append (protected_for users whole) (claimed_by settings q h.event) (claimed_in settings part (h ∷ q))))

-- The frames that a woven part takes from the logs are those of its claims.
pub woven-protected : (settings : Settings) (users : List UserFrame) (base : ℕ) (cards : ℕ → ℕ → Card) (r : Run) (part steps : List Happening)
    (es : List Event) (logs : List (List Entry)) → map (λ h. h.event) part ≡ map (counted_from base) es
    → IsWoven base part steps (logs_of 0 logs) → IsStepped settings users (followed_by part r)
    → AreSealed users cards r (base + 1) logs → AreCards settings cards (followed_by (without_claims part) r)
    → AreProtected settings users (frames_of es logs) part r
woven-protected settings users base cards r part steps es logs told woven stepped seals are =
    part-is settings users cards (followed_by part r)
    (λ s k has. are s k (installed-without settings users s k part r r stepped (alike-itself settings r) (λ h. h) has))
    r base (placed-later part r) part es logs r refl stepped told woven.no_other
    (λ u. subst (λ l. AreClaimsOf base l (claims_for base u part))
    (nth-logs 0 u logs ∙ ap (λ n. map (attempt_of n) (nth_log u logs)) (plain u)) (woven.claims u))
    (λ u. subst (λ n. AllByRecursion (IfFrame (IsSealedUnder users cards r n)) (nth_log u logs)) (over base u) (sealed-nth users cards r (base + 1) u logs seals))
  where
    plain : (u : ℕ) → 0 + u ≡ u
    plain u = omega arith

    over : (base u : ℕ) → (base + 1) + u ≡ base + u + 1
    over base u = omega arith
