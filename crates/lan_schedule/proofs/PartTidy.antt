-- A run stays fresh and unforged with the claims of a part, and more claims wait than before.
use Rattle.std.proofs.Common.{◌≡◌, ℕ, ◌+◌, true, false, List, [], ◌∷◌, ◌++◌}
use Rattle.std.proofs.Common.{length, map, refl, sym, ap, ◌∙◌, subst, inl, inr, append-nil}
use Rattle.std.specs.Prelude.{reverse}
use Rattle.std.proofs.lemmas.Bool.{cases_Bool}
use Rattle.std.proofs.lemmas.List.{length-append}
use Rattle.lan_base.specs.Differing.{AllDiffer}
use Rattle.lan_base.specs.declared.frame.UserFrame.{UserFrame}
use Rattle.lan_core.specs.declared.event.Event.{Event}
use Rattle.lan_core.specs.declared.event.Event.TheVariants as events
use Rattle.lan_core.specs.declared.fact.Fact.{Fact}
use Rattle.lan_core.specs.declared.fact.Fact.TheVariants as facts
use Rattle.lan_core.specs.declared.settings.Settings.{Settings}
use Rattle.lan_core.specs.Claims.{Waiting, claimed, claimed_by}
use Rattle.lan_core.specs.Fresh.{IsFresh, IsUnforged, IsUnforgedBy, drawn_saks, is_forged, sak_drawn}
use Rattle.lan_core.specs.Ledgers.{Birth, births, born, gather, with_one}
use Rattle.lan_core.specs.Legal.{IsStep, IsStepped}
use Rattle.lan_core.specs.Lives.{transmitting_at}
use Rattle.lan_core.specs.Parts.{AreAlike, claimed_in, followed_by, is_claim, without_claims}
use Rattle.lan_core.specs.Run.{Happening, Run}
use Rattle.lan_core.proofs.Public.{IsClaim, TellsClaim, alike-event, alike-itself, claim-alike}
use Rattle.lan_core.proofs.Public.{claimed-part, front-unforged, is-claim, stepped-front, tells-claim}
use Rattle.lan_schedule.proofs.WovenPart.{followed-reverse}

-- ---- what claims draw

-- facts that tell of no life
abbrev TellsOne : List Fact → Type 0
TellsOne [] = ⊥
TellsOne (fact ∷ later) = TellsClaim fact × (later ≡ [])

claim-tells : (settings : Settings) (users : List UserFrame) (x : Happening) (r : Run)
    → IsStep settings users x r → is_claim x.event ≡ true → TellsOne x.facts
claim-tells settings users x r step claim =
    by x.event (is-claim settings users r x.event x.facts step.shows) claim
  where
    by : (e : Event) → IsClaim settings r x.facts e → is_claim e ≡ true → TellsOne x.facts
    by (events.Claim s user pn) told claim =
        subst TellsOne told (tells-claim settings s pn r (transmitting_at settings s r), refl)
    by (events.Start name sci priority) told claim = absurd (cc claim)
    by (events.Tick s next) told claim = absurd (cc claim)
    by (events.Deliver frame s) told claim = absurd (cc claim)
    by (events.Restart s) told claim = absurd (cc claim)
    by events.Emit told claim = absurd (cc claim)
    by (events.Inject s octets) told claim = absurd (cc claim)

none-born : (shown : List Fact) (bs : List Birth) → TellsOne shown → gather born shown bs ≡ bs
none-born [] bs tells = absurd tells
none-born (facts.Claimed s an epoch pn ∷ later) bs tells =
    ap (λ (l : List Fact). gather born l bs) tells.1
none-born (facts.Unclaimed s why ∷ later) bs tells =
    ap (λ (l : List Fact). gather born l bs) tells.1
none-born (fact ∷ later) bs tells = absurd tells.0

no-sak : (shown : List Fact) (e : Event) (saks : List (List ℕ)) → is_claim e ≡ true
    → with_one (sak_drawn shown e) saks ≡ saks
no-sak shown (events.Claim s user pn) saks claim = refl
no-sak shown (events.Start name sci priority) saks claim = refl
no-sak shown (events.Tick s next) saks claim = absurd (cc claim)
no-sak shown (events.Deliver frame s) saks claim = refl
no-sak shown (events.Restart s) saks claim = refl
no-sak shown events.Emit saks claim = refl
no-sak shown (events.Inject s octets) saks claim = refl

-- two runs drew the same
record DrewSame (q c : Run) : Type 0 where
  lives : births q ≡ births c
  saks : drawn_saks q ≡ drawn_saks c

drew-part : (settings : Settings) (users : List UserFrame) (part : List Happening) (q c : Run)
    → IsStepped settings users (followed_by part q) → DrewSame q c
    → DrewSame (followed_by part q) (followed_by (without_claims part) c)
unfolding births drawn_saks
drew-part settings users [] q c stepped same = same
drew-part settings users (x ∷ part) q c stepped same = elim (cases_Bool (is_claim x.event)) [
  | inl claim ↦ (let tells = claim-tells settings users x q
      (stepped-front settings users part (x ∷ q) stepped).0 claim in
      rw claim (drew-part settings users part (x ∷ q) c stepped (record {
        lives = none-born x.facts (births q) tells ∙ same.lives;
        saks = no-sak x.facts x.event (drawn_saks q) claim ∙ same.saks;
      })))
  | inr other ↦ rw other (drew-part settings users part (x ∷ q) (x ∷ c) stepped (record {
    lives = ap (λ (bs : List Birth). gather born x.facts bs) same.lives;
    saks = ap (λ (ss : List (List ℕ)). with_one (sak_drawn x.facts x.event) ss) same.saks;
  }))
]

pub fresh-part : (settings : Settings) (users : List UserFrame) (part : List Happening) (r : Run)
    → IsStepped settings users (followed_by part r)
    → IsFresh (followed_by (without_claims part) r) → IsFresh (followed_by part r)
fresh-part settings users part r stepped fresh =
    let same = drew-part settings users part r r stepped (record { lives = refl; saks = refl }) in
    record {
      mis = subst (λ (bs : List Birth). AllDiffer (map (λ (b : Birth). b.mi) bs)) (sym same.lives)
          fresh.mis;
      saks = subst (λ (ss : List (List ℕ)). AllDiffer ss) (sym same.saks) fresh.saks;
    }

-- ---- what is forged

forged-same : (settings : Settings) (q c : Run) (octets : List ℕ) → AreAlike settings q c
    → is_forged settings q octets ≡ is_forged settings c octets
forged-same settings q c octets alike = rw (alike.places, alike.on_air) refl

unforged-by : (settings : Settings) (q c : Run) (e : Event) → AreAlike settings q c
    → IsUnforgedBy settings c e → IsUnforgedBy settings q e
unforged-by settings q c (events.Inject s octets) alike is = forged-same settings q c octets alike ∙ is
unforged-by settings q c (events.Start name sci priority) alike is = tt
unforged-by settings q c (events.Tick s next) alike is = tt
unforged-by settings q c (events.Deliver frame s) alike is = tt
unforged-by settings q c (events.Restart s) alike is = tt
unforged-by settings q c (events.Claim s user pn) alike is = tt
unforged-by settings q c events.Emit alike is = tt

claim-unforged : (settings : Settings) (q : Run) (e : Event) → is_claim e ≡ true
    → IsUnforgedBy settings q e
claim-unforged settings q (events.Claim s user pn) claim = tt
claim-unforged settings q (events.Start name sci priority) claim = tt
claim-unforged settings q (events.Tick s next) claim = tt
claim-unforged settings q (events.Deliver frame s) claim = tt
claim-unforged settings q (events.Restart s) claim = tt
claim-unforged settings q events.Emit claim = tt
claim-unforged settings q (events.Inject s octets) claim = absurd (cc claim)

before-unforged : (settings : Settings) (part : List Happening) (r : Run)
    → IsUnforged settings (followed_by part r) → IsUnforged settings r
before-unforged settings part r all = front-unforged settings (reverse part) r
    (subst (IsUnforged settings) (followed-reverse part r) all)

unforged-on : (settings : Settings) (users : List UserFrame) (part : List Happening) (q c : Run)
    → IsStepped settings users (followed_by part q) → AreAlike settings q c
    → IsUnforged settings (followed_by (without_claims part) c) → IsUnforged settings q
    → IsUnforged settings (followed_by part q)
unforged-on settings users [] q c stepped alike all before = before
unforged-on settings users (x ∷ part) q c stepped alike all before =
    elim (cases_Bool (is_claim x.event)) [
      | inl claim ↦ (let step = (stepped-front settings users part (x ∷ q) stepped).0 in
          unforged-on settings users part (x ∷ q) c stepped
          (claim-alike settings users x q c step claim alike) (rw claim at all)
          (claim-unforged settings q x.event claim, before))
      | inr other ↦ (let later : IsUnforged settings (followed_by (without_claims part) (x ∷ c)) =
          rw other at all in
          let here = before-unforged settings (without_claims part) (x ∷ c) later in
          unforged-on settings users part (x ∷ q) (x ∷ c) stepped (alike-event settings q c alike x)
          later (unforged-by settings q c x.event alike here.0, before))
    ]

pub unforged-part : (settings : Settings) (users : List UserFrame) (part : List Happening) (r : Run)
    → IsStepped settings users (followed_by part r)
    → IsUnforged settings (followed_by (without_claims part) r)
    → IsUnforged settings (followed_by part r)
unforged-part settings users part r stepped all =
    unforged-on settings users part r r stepped (alike-itself settings r) all
    (before-unforged settings (without_claims part) r all)

-- ---- claims that wait

claims-none : (settings : Settings) (r : Run) (e : Event) → is_claim e ≡ false
    → claimed_by settings r e ≡ []
claims-none settings r (events.Claim s user pn) other = absurd (cc other)
claims-none settings r (events.Start name sci priority) other = refl
claims-none settings r (events.Tick s next) other = refl
claims-none settings r (events.Deliver frame s) other = refl
claims-none settings r (events.Restart s) other = refl
claims-none settings r events.Emit other = refl
claims-none settings r (events.Inject s octets) other = refl

-- control claims nothing
pub claimed-still : (settings : Settings) (part : List Happening) (r : Run)
    → claimed settings (followed_by (without_claims part) r) ≡ claimed settings r
unfolding claimed
claimed-still settings [] r = refl
claimed-still settings (x ∷ part) r = elim (cases_Bool (is_claim x.event)) [
  | inl claim ↦ rw claim (claimed-still settings part r)
  | inr other ↦ rw other (claimed-still settings part (x ∷ r)
      ∙ (ap (λ (ws : List Waiting). claimed settings r ++ ws) (claims-none settings r x.event other)
      ∙ append-nil (claimed settings r)))
]

pub claimed-more : (settings : Settings) (part : List Happening) (r : Run)
    → length (claimed settings (followed_by part r))
    ≡ length (claimed settings r) + length (claimed_in settings part r)
claimed-more settings part r = ap length (claimed-part settings part r)
    ∙ length-append (claimed settings r) (claimed_in settings part r)
