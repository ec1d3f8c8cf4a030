-- A tick that changes no key.
use Rattle.std.specs.Prelude.{◌≡◌, Bool, if◌then◌else◌, List, [], ◌∷◌, None}
use Rattle.sak_exchange.specs.declared.report.Report.{Report}
use Rattle.sak_exchange.specs.Histories.{Keying, ticked}
use Rattle.sak_exchange.specs.Held.{latest, old, transmitting}
use Rattle.sak_exchange.specs.Beginning.{leads}
use Rattle.sak_exchange.specs.Outcomes.{dropping, retiring}

-- The next tick, at which a key server is elected or none is, is still: no key ends then, and none
-- begins in a station that leads, so that the keys which are held stay, and the one that transmits.
pub record IsStill (elected : Bool) (h : List Keying) : Type 0 where
  pub ended : (if elected then (retiring h).changes else (dropping h).changes) ≡ []
  pub unled : (live : List Report) → leads (ticked elected ∷ h) live ≡ None
  pub latest : latest (ticked elected ∷ h) ≡ latest h
  pub old : old (ticked elected ∷ h) ≡ old h
  pub transmitting : transmitting (ticked elected ∷ h) ≡ transmitting h
