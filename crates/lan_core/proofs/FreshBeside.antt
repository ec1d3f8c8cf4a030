-- A run stays fresh with a step of another run, where nothing that was drawn repeats.
use Rattle.std.proofs.Common.{◌≡◌, ◌≢◌, ◌+◌, List, [], ◌∷◌, Option, Some, None, refl, sym, subst}
use Rattle.std.specs.Prelude.{option_map, option_and_then}
use Rattle.lan_base.specs.declared.frame.UserFrame.{UserFrame}
use Rattle.lan_base.specs.declared.suite.Suite.{Suite}
use Rattle.lan_base.specs.declared.address.Mi.{Mi}
use Rattle.lan_base.specs.Differing.{AllDiffer, DiffersFrom}
use Rattle.lan_base.specs.Identifiers.{same_mi}
use Rattle.aes_block.specs.declared.secret.Secret.{Secret}
use Rattle.aes_block.specs.Secrets.{same_secret, secret_octets}
use Rattle.lan_core.specs.declared.settings.Settings.{Settings}
use Rattle.lan_core.specs.declared.stop.Stop.TheVariants.{RepeatedDraw}
use Rattle.lan_core.specs.Run.{Run, Happening}
use Rattle.lan_core.specs.Ledgers.{births, with_one}
use Rattle.lan_core.specs.Lives.{drawn_mi}
use Rattle.lan_core.specs.Types.{IfDrawn}
use Rattle.lan_core.specs.Order.{IsOfSuite}
use Rattle.lan_core.specs.Legal.{IsStep}
use Rattle.lan_core.specs.Fresh.{IsFresh, drawn_mis, drawn_saks}
use Rattle.lan_core.specs.Stops.{mi_number, sak_number, sak_of_tick, is_drawn}
use Rattle.lan_core.specs.Stops.{draws_in, drawn_before, stop_of_draw}
use Rattle.lan_core.specs.Suited.{AreDrawnWell, IsDrawnWell}
use Rattle.lan_core.proofs.FramesNumbered.{mapped}
use Rattle.lan_core.proofs.StaysFresh.{step_begins, other, differs_more, undrawn, mi_itself}
use Rattle.lan_core.proofs.StaysFresh.{secrets_differ, suits, saks-next, all_more, no_first}
use Rattle.lan_core.proofs.StaysFresh.{neither, unmapped}

-- a step is drawn well
pub step-well : (settings : Settings) (users : List UserFrame) (x : Happening) (r : Run)
    → IsStep settings users x r → IsDrawnWell settings x
step-well settings users x r step = record {
  one = step_begins settings users r x.event x.facts step.shows;
  suits = suited (sak_of_tick x.facts x.event) refl;
}
  where
    suited : (o : Option Secret) → sak_of_tick x.facts x.event ≡ o
        → IfDrawn (IsOfSuite settings) o
    suited None is = tt
    suited (Some sak) is = suits settings users x r step sak is

-- ---- what differs from each that was drawn

mi-differs : (settings : Settings) (suite : Suite) (mi : Mi) (m : Run) → AreDrawnWell settings m
    → mi_number suite m mi ≡ None → DiffersFrom mi (drawn_mis m)
unfolding mi_number births
mi-differs settings suite mi [] well none = tt
mi-differs settings suite mi (x ∷ m) (here, before) none =
    let parts = other (is_drawn same_mi mi (drawn_mi x.facts)) (draws_in suite m + 1)
    (mi_number suite m mi) none in
    subst (DiffersFrom mi) (sym (here.one (births m)))
    (differs_more mi (drawn_mi x.facts) (drawn_mis m)
    (λ b is. mi_itself mi b (undrawn same_mi mi (drawn_mi x.facts) parts.0 b is))
    (mi-differs settings suite mi m before parts.1))

sak-differs : (settings : Settings) (suite : Suite) (sak : Secret) → IsOfSuite settings sak
    → (m : Run) → AreDrawnWell settings m → sak_number suite m sak ≡ None
    → DiffersFrom (secret_octets sak) (drawn_saks m)
unfolding sak_number drawn_saks
sak-differs settings suite sak is [] well none = tt
sak-differs settings suite sak is (x ∷ m) (here, before) none =
    let drew = sak_of_tick x.facts x.event in
    let parts = other (is_drawn same_secret sak drew) (draws_in suite m + 1)
    (sak_number suite m sak) none in
    subst (DiffersFrom (secret_octets sak)) (sym (saks-next x m))
    (differs_more (secret_octets sak) (option_map secret_octets drew) (drawn_saks m)
    (λ octets there.
    let b = mapped secret_octets drew octets there in
    subst (λ octets. secret_octets sak ≢ octets) b.2
    (secrets_differ settings sak b.0 is (subst (IfDrawn (IsOfSuite settings)) b.1 here.suits)
    (undrawn same_secret sak drew parts.0 b.0 b.1)))
    (sak-differs settings suite sak is m before parts.1))

-- ---- a step more

mis-next : (settings : Settings) (users : List UserFrame) (x : Happening) (r m : Run)
    → IsStep settings users x r
    → drawn_mis (x ∷ m) ≡ with_one (drawn_mi x.facts) (drawn_mis m)
unfolding births
mis-next settings users x r m step =
    step_begins settings users r x.event x.facts step.shows (births m)

pub fresh-beside : (settings : Settings) (users : List UserFrame) (x : Happening) (r m : Run)
    → IsStep settings users x r → AreDrawnWell settings m
    → stop_of_draw settings.suite m x ≡ None → IsFresh m → IsFresh (x ∷ m)
fresh-beside settings users x r m step well none fresh =
    let suite = settings.suite in
    let drew = sak_of_tick x.facts x.event in
    let before = unmapped (λ first. RepeatedDraw first (draws_in suite m + 1))
    (drawn_before suite m x) none in
    let parts = neither (option_and_then (mi_number suite m) (drawn_mi x.facts))
    (option_and_then (sak_number suite m) drew) before in
    record {
      mis = subst AllDiffer (sym (mis-next settings users x r m step))
          (all_more (drawn_mi x.facts) (drawn_mis m)
          (λ mi is. mi-differs settings suite mi m well
          (no_first (mi_number suite m) (drawn_mi x.facts) parts.0 mi is))
          fresh.mis);
      saks = subst AllDiffer (sym (saks-next x m))
          (all_more (option_map secret_octets drew) (drawn_saks m)
          (λ octets there.
          let sak = mapped secret_octets drew octets there in
          subst (λ octets. DiffersFrom octets (drawn_saks m)) sak.2
          (sak-differs settings suite sak.0 (suits settings users x r step sak.0 sak.1) m well
          (no_first (sak_number suite m) drew parts.1 sak.0 sak.1)))
          fresh.saks);
    }
