-- The cards of all words stay right.
use Rattle.std.proofs.Common.{◌≡◌, ℕ, List, ◌∷◌, Some, ap}
use Rattle.std.specs.Prelude.{Contains, is_some}
use Rattle.lan_base.specs.declared.association_number.AssociationNumber.{AssociationNumber}
use Rattle.lan_base.specs.declared.frame.UserFrame.{UserFrame}
use Rattle.lan_base.specs.declared.key_id.KeyId.{KeyId}
use Rattle.aes_block.specs.declared.secret.Secret.{Secret}
use Rattle.association_slots.specs.Views.{ControlAt}
use Rattle.sak_exchange.specs.declared.held_key.HeldKey.{HeldKey}
use Rattle.lan_core.specs.declared.fact.Fact.TheVariants as facts
use Rattle.lan_core.specs.declared.settings.Settings.{Settings}
use Rattle.lan_core.specs.Counted.{AreCounted}
use Rattle.lan_core.specs.Keys.{held_at}
use Rattle.lan_core.specs.Ledgers.{installs}
use Rattle.lan_core.specs.Legal.{IsStep, IsStepped}
use Rattle.lan_core.specs.Run.{Happening, Run}
use Rattle.group_safety.specs.Transmitting.{Carried, CarriesAt, follow}
use Rattle.station_words.specs.Ties.{Followed}
use Rattle.worker_races.specs.Carded.{AreCarded, KeepCarried}
use Rattle.worker_races.proofs.CardsOn.{cards-on}

pub carded-on : (settings : Settings) (users : List UserFrame) (x : Happening) (r : Run) (ds es : List ControlAt)
    → IsStepped settings users r → IsStep settings users x r
    → ((s : ℕ) (k : Carried) → CarriesAt settings s r k
    → (j : Carried) × (follow s x.facts k ≡ Some j) × CarriesAt settings s (x ∷ r) j)
    → ((s : ℕ) (id : KeyId) (an : AssociationNumber) (epoch : ℕ) (sak : Secret)
    → Contains x.facts (facts.Installed s id an epoch sak)
    → (h : HeldKey) × (held_at settings s (x ∷ r) an ≡ Some h) × (h.key.epoch ≡ epoch)
    × (h.key.sak ≡ sak))
    → AreCounted (installs (x ∷ r))
    → KeepCarried settings r ds → Followed settings (x ∷ r) x.facts ds es
    → AreCarded settings r ds → AreCarded settings (x ∷ r) es
carded-on settings users x r ds es stepped step moves held counted keep followed carded s d there k has =
    let f = followed (λ s id an epoch sak has. ap is_some (held s id an epoch sak has).1) in
    let y = f.each s d there in
    let c = y.0 in
    let a = keep s c y.1 in
    let m = moves s a.0.carried a.1 in
    cards-on settings users s x r a.0.carried m.0 c.view d.view stepped step counted
    (λ id an epoch sak within. held s id an epoch sak within) a.1 m.2
    (λ key installed. carded s c y.1 key installed)
    (f.cards s c d y.1 there a.0 m.0 a.2 m.1)
    k has
