-- A group that stands for a run with the events of a part that are no claims stands for the run
-- with the part, once the frames of its claims wait to be emitted.
use Rattle.std.proofs.Common.{◌≡◌, ◌≤◌, ℕ, true, false, not, List, [], ◌∷◌, ◌++◌, length, map, drop, refl, sym, ap, ◌∙◌, subst, arith, inl, inr}
use Rattle.std.proofs.Common.{Some, append_assoc, append-nil}
use Rattle.std.specs.Prelude.{option_map}
use Rattle.std.proofs.lemmas.List.{length-append, map-append, drop-append-le}
use Rattle.std.proofs.lemmas.Bool.{cases_Bool}
use Rattle.lan_base.specs.declared.frame.Protected.{Protected}
use Rattle.lan_base.specs.declared.frame.UserFrame.{UserFrame}
use Rattle.lan_core.specs.declared.event.Event.{Event}
use Rattle.lan_core.specs.declared.event.Event.TheVariants as events
use Rattle.lan_core.specs.declared.settings.Settings.{Settings}
use Rattle.lan_core.specs.declared.waiting.Sealed.{Sealed}
use Rattle.lan_core.specs.Run.{Run, Happening, happened}
use Rattle.lan_core.specs.Ledgers.{emitted}
use Rattle.lan_core.specs.Lives.{transmitting_at}
use Rattle.lan_core.specs.Claims.{Waiting, claimed, claimed_by, frame_of_claim}
use Rattle.lan_core.specs.Expected.{claim_fact}
use Rattle.lan_core.specs.Legal.{IsStep, IsStepped}
use Rattle.lan_core.specs.Standing.{State, StandsFor, sealed_of}
use Rattle.lan_core.proofs.CarriedOver.{sealed-same}
use Rattle.lan_core.specs.Parts.{followed_by, is_claim, claimed_in, without_claims, AreAlike, AreProtected, protected_for, sealed_from}
use Rattle.lan_core.proofs.FramesNumbered.{mapped}
use Rattle.lan_core.proofs.FirstFacts.{is-claim, IsClaim}
use Rattle.lan_core.proofs.Alike.{alike-itself, alike-claim, alike-event, tells-claim, within-same}

-- the last events of a stepped run are steps
pub stepped-front : (settings : Settings) (users : List UserFrame) (part : List Happening) (q : Run)
    → IsStepped settings users (followed_by part q) → IsStepped settings users q
stepped-front settings users [] q stepped = stepped
stepped-front settings users (x ∷ part) q stepped = (stepped-front settings users part (x ∷ q) stepped).1

-- a claim behind the first run
pub claim-alike : (settings : Settings) (users : List UserFrame) (x : Happening) (q c : Run) → IsStep settings users x q
    → is_claim x.event ≡ true → AreAlike settings q c → AreAlike settings (x ∷ q) c
claim-alike settings users x q c step is seen = go x.event refl (is-claim settings users q x.event x.facts step.shows) is
  where
    go : (e : Event) → e ≡ x.event → IsClaim settings q x.facts e → is_claim e ≡ true → AreAlike settings (x ∷ q) c
    go (events.Claim s user pn) same told is =
        subst (λ shown. AreAlike settings (happened x.event shown ∷ q) c) told
        (subst (λ e. AreAlike settings (happened e (claim_fact settings s q pn (transmitting_at settings s q) ∷ []) ∷ q) c) same
        (alike-claim settings s user pn (claim_fact settings s q pn (transmitting_at settings s q)) q c
        (tells-claim settings s pn q (transmitting_at settings s q)) seen))
    go (events.Start name sci priority) same told is = absurd (cc is)
    go (events.Tick station next) same told is = absurd (cc is)
    go (events.Deliver frame station) same told is = absurd (cc is)
    go (events.Restart station) same told is = absurd (cc is)
    go events.Emit same told is = absurd (cc is)
    go (events.Inject station octets) same told is = absurd (cc is)

-- the part tells of all but claims what its other events do
pub alike-part : (settings : Settings) (users : List UserFrame) (part : List Happening) (q c : Run)
    → IsStepped settings users (followed_by part q) → AreAlike settings q c
    → AreAlike settings (followed_by part q) (followed_by (without_claims part) c)
alike-part settings users [] q c stepped seen = seen
alike-part settings users (x ∷ part) q c stepped seen = elim (cases_Bool (is_claim x.event)) [
  | inl claim ↦ rw claim (alike-part settings users part (x ∷ q) c stepped
      (claim-alike settings users x q c (stepped-front settings users part (x ∷ q) stepped).0 claim seen))
  | inr other ↦ rw other (alike-part settings users part (x ∷ q) (x ∷ c) stepped (alike-event settings q c seen x))
]

pub claimed-part : (settings : Settings) (part : List Happening) (q : Run)
    → claimed settings (followed_by part q) ≡ claimed settings q ++ claimed_in settings part q
unfolding claimed
claimed-part settings [] q = sym (append-nil (claimed settings q))
claimed-part settings (x ∷ part) q =
    claimed-part settings part (x ∷ q)
    ∙ append_assoc (claimed settings q) (claimed_by settings q x.event) (claimed_in settings part (x ∷ q))

claims-none : (settings : Settings) (c : Run) (e : Event) → is_claim e ≡ false → claimed_by settings c e ≡ []
claims-none settings c (events.Claim s user pn) not = absurd (cc not)
claims-none settings c (events.Start name sci priority) not = refl
claims-none settings c (events.Tick station next) not = refl
claims-none settings c (events.Deliver frame station) not = refl
claims-none settings c (events.Restart station) not = refl
claims-none settings c events.Emit not = refl
claims-none settings c (events.Inject station octets) not = refl

claimed-without : (settings : Settings) (part : List Happening) (c : Run)
    → claimed settings (followed_by (without_claims part) c) ≡ claimed settings c
unfolding claimed
claimed-without settings [] c = refl
claimed-without settings (x ∷ part) c = elim (cases_Bool (is_claim x.event)) [
  | inl claim ↦ rw claim (claimed-without settings part c)
  | inr other ↦ rw other (claimed-without settings part (x ∷ c)
      ∙ (ap (λ ws. claimed settings c ++ ws) (claims-none settings c x.event other) ∙ append-nil (claimed settings c)))
]

-- what a claim's octets make of it
abbrev protecting : Waiting → List ℕ → Protected
protecting w octets = record {
  station = w.station;
  an = w.key.an;
  epoch = w.key.epoch;
  pn = w.pn;
  octets = octets;
}

abbrev sealing : Waiting → List ℕ → Sealed
sealing w octets = record { station = w.station; octets = octets }

-- frames of claims as they wait
sealed-are : (users : List UserFrame) (r : Run) (taken : List Protected) (ws : List Waiting)
    → map Some taken ≡ map (protected_for users r) ws
    → map Some (map sealed_from taken) ≡ map (sealed_of users r) ws
sealed-are users r [] [] is = refl
sealed-are users r [] (w ∷ ws) is = absurd (cc is)
sealed-are users r (p ∷ taken) [] is = absurd (cc is)
sealed-are users r (p ∷ taken) (w ∷ ws) is =
    let first = heads (Some p) (protected_for users r w) (map Some taken) (map (protected_for users r) ws) is in
    let later = tails (Some p) (protected_for users r w) (map Some taken) (map (protected_for users r) ws) is in
    cons-same (one first) (sealed-are users r taken ws later)
  where
    heads : {A : Type 0} (a b : A) (xs ys : List A) → a ∷ xs ≡ b ∷ ys → a ≡ b
    heads a b xs ys is = cc is

    tails : {A : Type 0} (a b : A) (xs ys : List A) → a ∷ xs ≡ b ∷ ys → xs ≡ ys
    tails a b xs ys is = cc is

    cons-same : {A : Type 0} {a b : A} {xs ys : List A} → a ≡ b → xs ≡ ys → a ∷ xs ≡ b ∷ ys
    cons-same same others = rw (same, others) refl

    one : Some p ≡ protected_for users r w → Some (sealed_from p) ≡ sealed_of users r w
    one is =
        let octets = mapped (protecting w) (frame_of_claim users r w) p (sym is) in
        ap (λ (q : Protected). Some (sealed_from q)) (sym octets.2) ∙ sym (ap (option_map (sealing w)) octets.1)

-- The group with the frames of the part's claims behind those that wait.
pub settles-part : (settings : Settings) (users : List UserFrame) (part : List Happening) (r : Run) (lan : State)
    (taken : List Protected) → StandsFor settings users lan (followed_by (without_claims part) r)
    → IsStepped settings users (followed_by part r) → AreProtected settings users taken part r
    → StandsFor settings users (record lan { waiting = lan.waiting ++ map sealed_from taken })
    (followed_by part r)
settles-part settings users part r lan taken stands stepped are =
    let frames = map sealed_from taken in
    let w = followed_by part r in
    let c = followed_by (without_claims part) r in
    let alike = alike-part settings users part r r stepped (alike-itself settings r) in
    let all = claimed-part settings part r in
    let before = claimed-without settings part r in
    let quiet : emitted w ≡ emitted c = rw alike.on_air refl in
    let n = length (emitted c) in
    let made = claimed_in settings part r in
    let sealed = sealed-are users w taken made are in
    let turn : n ≤ length (claimed settings r) = rw (← before) stands.in_turn in
    let waits : map Some lan.waiting ≡ map (sealed_of users w) (drop n (claimed settings r)) =
    rw (sealed-same users w c alike.places (drop n (claimed settings r)), ← before) stands.waiting in
    let more = length-append (claimed settings r) made in
    record {
      set_up = stands.set_up;
      setting = stands.setting;
      goes = stands.goes;
      names = rw alike.places stands.names;
      on_air = rw alike.on_air stands.on_air;
      numbered = rw alike.on_air stands.numbered;
      seats = λ s. rw (alike.slots s, alike.installed, alike.lives s, alike.places) (stands.seats s);
      waiting = rw (
        quiet,
        all,
        drop-append-le n (claimed settings r) made turn,
        map-append (sealed_of users w) (drop n (claimed settings r)) made,
        map-append Some lan.waiting frames,
        waits,
        sealed,
      ) refl;
      in_turn = rw (quiet, all, more) (omega (arith, turn));
      ticked = rw alike.ticked stands.ticked;
      drawn = record {
        count = rw alike.counted stands.drawn.count;
        mis = λ mi. rw (alike.mis mi) (stands.drawn.mis mi);
        saks = λ sak. rw (alike.saks sak) (stands.drawn.saks sak);
      };
      within = within-same settings w c alike stands.within;
    }
