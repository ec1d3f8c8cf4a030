-- The summary at small lists of facts.
use Rattle.std.proofs.Common.{◌≡◌, true, false, List, [], ◌∷◌, ◌++◌, replicate, None, refl}
use Rattle.std.specs.Prelude.{codes}
use Rattle.std.specs.Fmt.{digits}
use Rattle.lan_base.specs.declared.association_number.AssociationNumber.TheVariants.{An0}
use Rattle.serde_json.proofs.OnLiterals.{serde_json_on_literals}
use Rattle.aes_block.specs.declared.secret.Secret.TheVariants.{S128}
use Rattle.lan_base.specs.declared.address.Mi.{Mi}
use Rattle.lan_base.specs.declared.key_id.KeyId.{KeyId}
use Rattle.sak_exchange.specs.declared.change.Cause.TheVariants.{All, Flag}
use Rattle.rx_slots.specs.declared.arrival.Arrival.TheVariants.{Accepted, Own, Missed}
use Rattle.rx_slots.specs.declared.arrival.Arrival.TheVariants.{BadCheck, Late}
use Rattle.lan_core.specs.declared.fact.Fact.{Fact}
use Rattle.lan_core.specs.declared.fact.Lack.TheVariants.{NoKey}
use Rattle.lan_core.specs.declared.fact.Fact.TheVariants.{Life, Ticked, Server, Dropped, Began}
use Rattle.lan_core.specs.declared.fact.Fact.TheVariants.{Installed, Framed, Claimed, Unclaimed}
use Rattle.lan_core.specs.declared.fact.Fact.TheVariants.{Arrived}
use Rattle.fact_tally.specs.Summary.{summary, counts, most}
use Rattle.fact_tally.specs.inside.Counting.{stepped}

abbrev mi : Mi
mi = record { 0 = replicate 12 1 }

abbrev id : KeyId
id = record { server = mi; number = 1 }

-- two stations with their first key: twelve ticks, nine frames, and each installs and begins the
-- key
abbrev first_key : List Fact
first_key =
    Life 0 mi ∷ Life 1 mi ∷ replicate 12 (Ticked 0 1 0) ++ replicate 9 (Framed 1 0 false [])
    ++ Server 0 None ∷ Installed 0 id An0 1 (S128 []) ∷ Installed 1 id An0 1 (S128 [])
    ∷ Began 0 id An0 1 All ∷ Began 1 id An0 1 Flag ∷ []

first_key_summed :
    summary first_key
    ≡ codes "{\"accepted\":0,\"begun\":2,\"claims\":0,\"frames\":9,\"installed\":2,"
    ++ codes "\"late\":0,\"missed\":0,\"noclaims\":0,\"ticks\":12}\n"
unfolding counts serde_json_on_literals digits
first_key_summed = refl

-- claims, and answers to protected frames
abbrev data_frames : List Fact
data_frames =
    Claimed 0 An0 1 1 ∷ Claimed 0 An0 1 2 ∷ Unclaimed 0 NoKey ∷ Arrived 1 1 (Accepted 1 [])
    ∷ Arrived 1 1 (Late 2) ∷ Arrived 1 1 (Late 2) ∷ Arrived 1 0 Own ∷ Arrived 1 1 BadCheck
    ∷ replicate 3 (Arrived 2 1 (Missed An0)) ++ Dropped 1 id An0 ∷ []

data_frames_summed :
    summary data_frames
    ≡ codes "{\"accepted\":1,\"begun\":0,\"claims\":2,\"frames\":0,\"installed\":0,"
    ++ codes "\"late\":2,\"missed\":3,\"noclaims\":1,\"ticks\":0}\n"
unfolding counts serde_json_on_literals digits
data_frames_summed = refl

-- the greatest count stays
stays : stepped true most ≡ most
stays = refl
