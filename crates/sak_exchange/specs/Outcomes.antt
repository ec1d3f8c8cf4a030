-- What each call changes, and the history after it (the order of the changes is this profile's
-- own).
use Rattle.std.specs.Prelude.{ℕ, Bool, true, false, List, [], ◌∷◌, ◌++◌, map, option_to_list, Option, Some, None, option_map, Result, Ok, Err}
use Rattle.std.specs.List.{filter}
use Rattle.lan_base.specs.declared.address.Mi.{Mi}
use Rattle.aes_block.specs.declared.secret.Secret.{Secret}
use Rattle.mkpdu_codec.specs.declared.key_use.Uses.{Uses}
use Rattle.sak_exchange.specs.declared.change.Change.{Change}
use Rattle.sak_exchange.specs.declared.change.Change.TheVariants.{Dropped, Retired, Began, Installed, Untaken}
use Rattle.sak_exchange.specs.declared.change.Why.{Why}
use Rattle.sak_exchange.specs.declared.offer.Offer.{Offer}
use Rattle.sak_exchange.specs.declared.report.Report.{Report}
use Rattle.sak_exchange.specs.declared.held_key.Key.{Key}
use Rattle.sak_exchange.specs.Histories.{Keying, ticked, installed, began}
use Rattle.sak_exchange.specs.Held.{ends, received, shown, held}
use Rattle.sak_exchange.specs.Beginning.{Beginning, leads, follows, retired}
use Rattle.sak_exchange.specs.Making.{made_key, made_roster}
use Rattle.sak_exchange.specs.Taking.{offered_id, taken}

-- what changes, and the history then
pub record Effect : Type 0 where
  pub changes : List Change
  pub past : List Keying

-- at a tick with no elected server every key is dropped
abbrev pub dropping : List Keying → Effect
dropping h =
    record { changes = map (λ k. Dropped (held h k)) (received h); past = ticked false ∷ h }

-- at a tick with an elected server the old key is retired where its time is over
abbrev pub retiring : List Keying → Effect
retiring h =
    record {
      changes = option_to_list (option_map (λ k. Retired (held h k)) (retired h));
      past = ticked true ∷ h;
    }

-- a key begins, or none does
abbrev pub beginning : List Keying → Option Beginning → Effect
beginning h None = record { changes = []; past = h }
beginning h (Some b) =
    record { changes = Began (shown true b.key) b.cause ∷ []; past = began b.key.epoch ∷ h }

-- a station that is its own elected server leads
abbrev pub leading : List Keying → List Report → Effect
leading h live = beginning h (leads h live)

-- a station follows what its elected server says of its keys
abbrev pub following : List Keying → Uses → Effect
following h u = beginning h (follows h u)

-- a key is installed, with its roster where this life made it, and ends others
abbrev pub installing : List Keying → Option (List Mi) → Key → Effect
installing h roster k =
    record {
      changes = map (λ j. Dropped (held h j))
          (filter (ends (installed roster k) h) (received h)) ++ Installed (shown false k) ∷ [];
      past = installed roster k ∷ h;
    }

-- a station that is its own elected server makes a key
abbrev pub making : ℕ → Mi → List Keying → List Report → Bool → Secret → Effect
making base own h live conf sak =
    installing h (Some (made_roster own live)) (made_key base own h conf sak)

-- an offered key is taken, or there is a reason why not
abbrev pub judging : List Keying → Offer → Result Key Why → Effect
judging h o (Ok k) = installing h None k
judging h o (Err why) = record { changes = Untaken (offered_id o) why ∷ []; past = h }

-- a key is offered, with the SAK that it hides, if it hides one
abbrev pub taking : ℕ → List Keying → Offer → Option Secret → Effect
taking base h o sak = judging h o (taken base h o sak)
