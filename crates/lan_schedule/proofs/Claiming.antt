-- What the words give to a claim of a station, and what they say afterwards.
use Rattle.std.proofs.Common.{◌≡◌, ◌≤◌, ◌<◌, inl, inr, ⊎_elim, ℕ, ◌+◌, ◌^◌, Bool, true, false, cond}
use Rattle.std.proofs.Common.{List, [], ◌∷◌, ◌++◌, length, min, refl, ◌∙◌, subst, arith}
use Rattle.std.proofs.lemmas.List.Sums.{sum_by-cons, sum_by-append}
use Rattle.std.specs.List.{count_by}
use Rattle.association_slots.specs.Views.{ControlAt}
use Rattle.lan_core.specs.declared.event.Event.{Event}
use Rattle.lan_core.specs.declared.event.Event.TheVariants as events
use Rattle.lan_core.specs.declared.fact.Fact.{Fact}
use Rattle.lan_core.specs.declared.fact.Fact.TheVariants as facts
use Rattle.lan_core.specs.declared.settings.Settings.{Settings}
use Rattle.lan_core.specs.Run.{Run, stations, facts_of}
use Rattle.lan_core.specs.Ledgers.{Claim, claims, claim_of, collect, gather, with_one}
use Rattle.lan_core.specs.Expected.{last_number}
use Rattle.fact_tally.specs.Summary.{Counts, counts, is_claim, most}
use Rattle.station_words.specs.Ties.{AreTied, AreAhead, HaveCaughtUp, CaughtAhead, KeepCards}
use Rattle.station_words.specs.Seats.{HasGot, AreSpent}
use Rattle.lan_schedule.specs.declared.stage.Stage.{Stage}
use Rattle.lan_schedule.specs.World.{World, settings, is_racing}
use Rattle.lan_schedule.specs.Numbers.{shown_next}
use Rattle.lan_schedule.specs.Stages.{Says, StandsFor}
use Rattle.lan_schedule.specs.inside.Set.{SaysAhead, IsClaimNumber, most_claims}

-- ---- what the words say

pub tied : (raced racing : Bool) (settings : Settings) (r : Run) (cs : List ControlAt)
    → raced ≡ false → Says raced racing settings r cs → AreTied settings r cs
tied raced racing settings r cs calm says =
    subst (λ (b : Bool). Says b racing settings r cs) calm says

pub caught-up : (raced racing : Bool) (settings : Settings) (r : Run) (cs : List ControlAt)
    → raced ≡ true → racing ≡ false → Says raced racing settings r cs → HaveCaughtUp settings r cs
caught-up raced racing settings r cs is apart says =
    subst (λ (b : Bool). Says true b settings r cs) apart
    (subst (λ (b : Bool). Says b racing settings r cs) is says)

-- ---- how many claims there were

one-claim : (fact : Fact) (xs : List Claim)
    → length (with_one (claim_of fact) xs) ≡ cond (is_claim fact) 1 0 + length xs
one-claim (facts.Claimed station an epoch pn) xs = omega arith
one-claim _ xs = omega arith

gather-counts : (shown : List Fact) (xs : List Claim)
    → length (gather claim_of shown xs) ≡ count_by is_claim shown + length xs
gather-counts [] xs = omega arith
gather-counts (fact ∷ others) xs =
    let ys = with_one (claim_of fact) xs in
    let one = one-claim fact xs in
    let both : count_by is_claim (fact ∷ others)
    ≡ cond (is_claim fact) 1 0 + count_by is_claim others =
    sum_by-cons (λ (x : Fact). cond (is_claim x) 1 0) fact others in
    let more : count_by is_claim others + length ys
    ≡ count_by is_claim (fact ∷ others) + length xs = omega (arith, one, both) in
    gather-counts others ys ∙ more

pub claims-counted : (r : Run) → length (claims r) ≡ count_by is_claim (facts_of r)
unfolding claims
claims-counted [] = refl
claims-counted (x ∷ r) =
    let before : length (collect claim_of r) ≡ count_by is_claim (facts_of r) = claims-counted r in
    let both : count_by is_claim (facts_of r ++ x.facts)
    ≡ count_by is_claim (facts_of r) + count_by is_claim x.facts =
    sum_by-append (λ (y : Fact). cond (is_claim y) 1 0) (facts_of r) x.facts in
    let more : count_by is_claim x.facts + length (collect claim_of r)
    ≡ count_by is_claim (facts_of r ++ x.facts) = omega (arith, before, both) in
    gather-counts x.facts (collect claim_of r) ∙ more

pub few-claims : (r : Run) → (counts (facts_of r)).claims ≤ most_claims
    → length (claims r) ≤ most_claims
unfolding counts
few-claims r few =
    let n = claims-counted r in
    let low : min (count_by is_claim (facts_of r)) most ≤ most_claims = few in
    omega (arith, n, low)

-- where they were few, the tally has as many
pub claims-tallied : (r : Run) → (counts (facts_of r)).claims < 2 ^ 32
    → length (claims r) ≡ (counts (facts_of r)).claims
unfolding counts
claims-tallied r few =
    let n = claims-counted r in
    let low : min (count_by is_claim (facts_of r)) most < 2 ^ 32 = few in
    let same : (counts (facts_of r)).claims ≡ min (count_by is_claim (facts_of r)) most = refl in
    omega (arith, n, low, same)

-- ---- a claim

-- words that have caught up with a run of few claims have a number left
abbrev pub SpendsNone : Type 0
SpendsNone = (settings : Settings) (r : Run) (cs : List ControlAt) (s : ℕ)
    → HaveCaughtUp settings r cs → length (claims r) + 17 ≤ last_number → AreSpent s cs → ⊥

-- what the words give to a claim, before the first race and after one
pub record Gives (s n pn : ℕ) (old mid : Stage) : Type 0 where
  pub calm : (settings : Settings) (r : Run) → AreTied settings r old.words
      → s < length (stations r) → shown_next settings s r ≤ last_number
      → (pn ≡ shown_next settings s r) × AreAhead settings r (events.Claim s n pn) mid.words
  pub raced : (settings : Settings) (r : Run) → HaveCaughtUp settings r old.words
      → s < length (stations r)
      → HasGot settings s r old.words pn × CaughtAhead settings r (events.Claim s n pn) mid.words
  pub few : old.raced ≡ true → old.tally.claims ≤ most_claims
  pub cards : KeepCards old.words mid.words
  pub spends : SpendsNone

got-taken : (settings : Settings) (s : ℕ) (r : Run) (cs : List ControlAt) (n : ℕ)
    → HasGot settings s r cs n → (AreSpent s cs → ⊥) → IsClaimNumber true (shown_next settings s r) n
got-taken settings s r cs n (inl got) never = inl (got.0, got.1, got.2)
got-taken settings s r cs n (inr none) never =
    ⊎_elim (λ (no_key : shown_next settings s r ≡ 0). inr (no_key, none.0))
    (λ (spent : AreSpent s cs). absurd (never spent)) none.1

taken-by : (raced racing : Bool) (settings : Settings) (r : Run) (event : Event)
    (cs : List ControlAt) (next n : ℕ) → racing ≡ false
    → (raced ≡ false → IsClaimNumber false next n × AreAhead settings r event cs)
    → (raced ≡ true → IsClaimNumber true next n × CaughtAhead settings r event cs)
    → IsClaimNumber raced next n × SaysAhead raced racing settings r event cs
taken-by false racing settings r event cs next n apart calm caught = calm refl
taken-by true false settings r event cs next n apart calm caught = caught refl
taken-by true true settings r event cs next n apart calm caught = absurd (cc apart)

-- what is claimed in a world outside a race
pub gives-taken : (w : World) (s n pn : ℕ) (old mid : Stage) → StandsFor w old
    → is_racing w.kept.phase ≡ false → s < length (stations w.run) → Gives s n pn old mid
    → (w.kept.raced ≡ false → shown_next (settings w) s w.run ≤ last_number)
    → IsClaimNumber w.kept.raced (shown_next (settings w) s w.run) pn
    × SaysAhead w.kept.raced (is_racing w.kept.phase) (settings w) w.run (events.Claim s n pn)
    mid.words
gives-taken w s n pn old mid stands apart there gives low =
    let racing = is_racing w.kept.phase in
    taken-by w.kept.raced racing (settings w) w.run (events.Claim s n pn) mid.words
    (shown_next (settings w) s w.run) pn apart
    (λ calm.
    let g = gives.calm (settings w) w.run
    (tied w.kept.raced racing (settings w) w.run old.words calm stands.words) there (low calm) in
    ((g.0, low calm), g.1))
    (λ is.
    let caught = caught-up w.kept.raced racing (settings w) w.run old.words is apart stands.words in
    let g = gives.raced (settings w) w.run caught there in
    let few = few-claims w.run (subst (λ (c : Counts). c.claims ≤ most_claims) stands.tally
    (gives.few (stands.raced ∙ is))) in (
      got-taken (settings w) s w.run old.words pn g.0
          (gives.spends (settings w) w.run old.words s caught (omega (arith, few))),
      g.1,
    ))
