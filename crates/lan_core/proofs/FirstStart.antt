-- An unstopped event: the first station of a group starts. Its draw is 16 octets of zero.
use Rattle.std.proofs.Common.{◌≡◌, ◌≢◌, ℕ, List, [], ◌∷◌, Option, Some, None}
use Rattle.std.proofs.Common.{refl, subst, arith}
use Rattle.std.proofs.lemmas.List.Elements.{All-nil}
use Rattle.std.specs.Prelude.{replicate}
use Rattle.lan_core.specs.declared.event.Event.{Event}
use Rattle.lan_core.specs.declared.event.Event.TheVariants as events
use Rattle.lan_core.specs.declared.fact.Fact.{Fact}
use Rattle.lan_core.specs.declared.fact.Fact.TheVariants as facts
use Rattle.lan_core.specs.Run.{Profile, stations}
use Rattle.lan_core.specs.Ledgers.{air, births, installs}
use Rattle.lan_core.specs.Lives.{life, receiving}
use Rattle.lan_core.specs.Claims.{next, claimed}
use Rattle.lan_core.specs.Expected.{expected}
use Rattle.lan_core.specs.Types.{AreSome}
use Rattle.lan_core.specs.Stops.{first_stop, mi_number, sak_number, draws_in}
use Rattle.lan_core.specs.Unstopped.{AreDraws, IsUnstopped}
use Rattle.lan_core.proofs.Examples.{sci, settings}
use Rattle.lan_core.proofs.LegalRun.{setting, sci_is, octets_of}

opens : ℕ
unfolding stations air births installs life receiving next claimed expected first_stop mi_number
    sak_number draws_in
opens = 0

abbrev zeroes : ℕ → Option (List ℕ)
zeroes place = Some (replicate 16 0)

some-same : {A : Type 0} {a b : A} → Some a ≡ Some b → a ≡ b
some-same is = cc is

draws : AreDraws zeroes
draws = record {
  shape = λ place draw is.
      subst (AreSome 16) (some-same is) (refl, octets_of (replicate 16 0) refl);
  ends = λ place none. absurd (cc none);
}

abbrev starts : Event
starts = events.Start (65 ∷ []) (sci 10) 16

abbrev shown : List Fact
shown = facts.Life 0 (record { 0 = replicate 12 0 }) ∷ []

pub goes : IsUnstopped settings [] [] None starts zeroes shown
unfolding opens
goes = record {
  setting = setting;
  typed = (search, sci_is 10 refl, omega arith);
  draws = draws;
  may_come = All-nil (λ (p : Profile). (p.name ≢ 65 ∷ []) × (p.sci ≢ sci 10));
  shows = refl;
  goes = refl;
}
