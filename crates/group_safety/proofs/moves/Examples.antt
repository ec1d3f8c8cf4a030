-- What facts move, and what events add to an account, at worked values.
use Rattle.std.proofs.Common.{◌≡◌, refl, List, [], ◌∷◌, Some, None}
use Rattle.lan_base.specs.declared.key_id.KeyId.{KeyId}
use Rattle.lan_base.specs.declared.association_number.AssociationNumber.TheVariants.{An0, An1}
use Rattle.aes_block.specs.declared.secret.Secret.{Secret}
use Rattle.sak_exchange.specs.declared.change.Cause.TheVariants.{All}
use Rattle.lan_core.specs.declared.fact.Fact.{Fact}
use Rattle.lan_core.specs.declared.fact.Fact.TheVariants as facts
use Rattle.lan_core.specs.declared.event.Event.TheVariants as events
use Rattle.group_safety.specs.Transmitting.{Carried, nothing, sends, silent_after, follow}
use Rattle.group_safety.specs.Accounts.{Account, blank, next_now, ahead}

module _ (id : KeyId) (sak : Secret) where
  -- a first key, and a second one under the next association number, of which the first is dropped
  abbrev two_keys : List Fact
  two_keys = facts.Installed 0 id An0 1 sak ∷ facts.Began 0 id An0 1 All
      ∷ facts.Installed 0 id An1 2 sak ∷ facts.Began 0 id An1 2 All ∷ facts.Dropped 0 id An0 ∷ []

  abbrev second : Carried
  second = record { points = sends An1 2 ∷ sends An0 1 ∷ []; installs = 2 }

  both : follow 0 two_keys nothing ≡ Some second
  both = refl

  -- they are nothing to another station
  elsewhere : follow 1 two_keys nothing ≡ Some nothing
  elsewhere = refl

  -- the key that transmits is dropped
  dropped : follow 0 (facts.Dropped 0 id An1 ∷ []) second
      ≡ Some (record { points = silent_after 2 ∷ second.points; installs = 2 })
  dropped = refl

  -- no key begins that was not installed, nor one again, nor one under the number that transmits
  never_installed : follow 0 (facts.Began 0 id An0 3 All ∷ []) second ≡ None
  never_installed = refl

  again : follow 0 (facts.Began 0 id An0 2 All ∷ []) second ≡ None
  again = refl

  beside : follow 0 (facts.Installed 0 id An1 3 sak ∷ facts.Began 0 id An1 3 All ∷ []) second ≡ None
  beside = refl

-- the account of a station that transmits under its first key
abbrev first : Account
first = record blank { carried = record { points = sends An0 1 ∷ []; installs = 1 } }

-- two claims and a tick, and what is nothing to the station
abbrev busy : Account
busy = ahead 0 (events.Tick 1 9) (ahead 0 (events.Tick 0 3) (ahead 0 (events.Claim 0 2 2)
    (ahead 0 (events.Claim 0 1 1) first)))

claimed_twice : busy.claims ≡ (1, 2) ∷ (1, 1) ∷ []
claimed_twice = refl

shown_once : busy.shows ≡ 3 ∷ []
shown_once = refl

next_is : next_now busy ≡ 3
next_is = refl

-- where nothing transmits a claim takes no number, and a tick shows none
silent : ahead 0 (events.Tick 0 0) (ahead 0 (events.Claim 0 1 0) blank) ≡ blank
silent = refl
