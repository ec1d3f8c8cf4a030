-- The words have caught up with the run that has a part woven of control and of the logs.
use Rattle.std.proofs.Common.{◌≡◌, ◌<◌, ◌≤◌, ◌+◌, ℕ, List, length, refl, sym, ap, subst, arith}
use Rattle.std.proofs.lemmas.Option.{slice_get_within}
use Rattle.association_slots.specs.Views.{claimed, count}
use Rattle.lan_core.specs.Run.{Run, Happening, stations}
use Rattle.lan_core.specs.Legal.{IsStepped}
use Rattle.lan_core.specs.Parts.{AreAlike, followed_by, without_claims}
use Rattle.lan_core.proofs.Public.{alike-itself, alike-part}
use Rattle.group_safety.specs.Transmitting.{CarriesIn}
use Rattle.worker_races.specs.merge.Weaving.{IsWoven}
use Rattle.station_words.specs.Ties.{AreToldAll, HaveClaimsBeside}
use Rattle.worker_races.specs.Beside.{Race, WereBeside, attempts_in, logs_in}
use Rattle.worker_races.specs.Performed.{happenings, run_after}
use Rattle.worker_races.specs.Reading.{view_in}
use Rattle.worker_races.proofs.Claims.{Beside, beside-itself, beside-part, times-woven}
use Rattle.worker_races.proofs.Races.{before-at, between-at, hands, many-after, same-stations, stepped, times-all}

module _ (race : Race) (is : WereBeside race) (part : List Happening)
    (woven : IsWoven race.base part (happenings race.performed) (attempts_in race))
    (whole : IsStepped race.settings race.users (followed_by part race.run)) where
  abbrev w : Run
  w = followed_by part race.run

  abbrev on : Run
  on = run_after race.performed race.run

  same-run : followed_by (without_claims part) race.run ≡ on
  same-run = ap (λ hs. followed_by hs race.run) woven.control

  alike : AreAlike race.settings w on
  alike = subst (AreAlike race.settings w) same-run
      (alike-part race.settings race.users part race.run race.run whole (alike-itself race.settings race.run))

  beside : (s : ℕ) → Beside race.settings race.users s w on
  beside s = subst (Beside race.settings race.users s w) same-run
      (beside-part race.settings race.users s part race.run race.run whole (alike-itself race.settings race.run)
      (beside-itself race.settings race.users s race.run (stepped race is)))

  -- no station starts in the part
  pub places-after : (s : ℕ) → length (stations w) ≤ s → length (stations race.run) ≤ s
  places-after s past = let all = ap length alike.places in let before = ap length (same-stations race is) in omega (arith, past, all, before)

  pub claims-beside : HaveClaimsBeside race.settings on w
  claims-beside = record {
    many = ap length alike.places;
    each = λ s k carries. (
      subst (λ o. CarriesIn o k) (sym (alike.lives s)) carries,
      record { carried = refl; shows = (beside s).shows; claims = (beside s).less; nexts = (beside s).nexts },
    );
  }

  pub told-all : AreToldAll w race.after
  told-all s c at epoch pn =
      let there : s < length (stations race.run) =
      (let less = slice_get_within race.after s c at in let many = many-after race is in omega (arith, less, many)) in
      let counts = (between-at race is s there).counts (claimed epoch pn) in
      let view = ap (λ v. count (claimed epoch pn) v.told) (ap view_in at) in
      let all = times-all race is (race.base + 1) s epoch pn race.ended (hands race is) in
      let before = (before-at race is s there).up.claims epoch pn in
      let run = times-woven race.settings race.users race.base s epoch pn (logs_in race) part race.run whole woven.claims woven.no_other in
      omega (arith, counts, view, all, before, run)
