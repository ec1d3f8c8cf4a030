-- What the private functions of the code do with the state: these serve their clauses alone.
use Rattle.std.specs.Prelude.{◌≡◌, ℕ, ◌==◌, ◌+◌, min, max, nat_le, Bool, true, false, if◌then◌else◌, not, ◌&&◌, ◌||◌, List, [], ◌∷◌, ◌++◌, option_to_list, Option, Some, None, is_some, is_none, option_map, option_and_then, unwrap_or, Result}
use Rattle.std.specs.Option.{option_map_or}
use Rattle.std.specs.List.{list_any, list_all}
use Rattle.std.specs.BTreeMap.{is_at}
use Rattle.lan_base.specs.declared.address.Mi.{Mi}
use Rattle.lan_base.specs.declared.association_number.AssociationNumber.{AssociationNumber}
use Rattle.lan_base.specs.declared.association_number.AssociationNumber.TheVariants.{An0}
use Rattle.lan_base.specs.AssociationNumbers.{same_an, behind}
use Rattle.lan_base.specs.Identifiers.{order}
use Rattle.lan_base.specs.declared.key_id.KeyId.{KeyId}
use Rattle.lan_base.specs.Timers.{life_time, retire_time}
use Rattle.aes_block.specs.declared.secret.Secret.{Secret}
use Rattle.mkpdu_codec.specs.declared.key_use.Uses.{Uses}
use Rattle.sak_exchange.specs.declared.held_key.HeldKey.{HeldKey}
use Rattle.sak_exchange.specs.declared.latest.Latest.{Latest}
use Rattle.sak_exchange.specs.declared.change.Cause.{Cause}
use Rattle.sak_exchange.specs.declared.change.Cause.TheVariants.{All, Timeout, Flag}
use Rattle.sak_exchange.specs.declared.change.Change.{Change}
use Rattle.sak_exchange.specs.declared.change.Change.TheVariants.{Dropped, Began, Installed}
use Rattle.sak_exchange.specs.declared.change.Why.{Why}
use Rattle.sak_exchange.specs.declared.due.Seen.{Seen}
use Rattle.sak_exchange.specs.declared.due.Rekey.{Rekey}
use Rattle.sak_exchange.specs.declared.offer.Offer.{Offer}
use Rattle.sak_exchange.specs.declared.report.Report.{Report}
use Rattle.sak_exchange.specs.declared.held_key.Key.{Key}
use Rattle.sak_exchange.specs.Held.{shown}
use Rattle.sak_exchange.specs.Reports.{reports_latest, reports, transmits}
use Rattle.sak_exchange.specs.Making.{lists, is_spent}
use Rattle.sak_exchange.specs.Taking.{judged}
use Rattle.sak_exchange.specs.Standing.{State, number_in, most_ticks}

-- one more tick, as far as they are counted
abbrev pub counted : ℕ → ℕ
counted n = min (n + 1) most_ticks

-- the latest key a tick later
abbrev pub aged : Latest → Latest
aged l = record l { since_begun = if l.held.begun then counted l.since_begun else 0 }

-- the latest key as it begins
abbrev pub begun_now : Latest → Latest
begun_now l = record { held = shown true l.held.key; since_begun = 0 }

-- the state a tick later
abbrev pub ticked_now : State → State
ticked_now s =
    record s { latest = option_map aged s.latest; since_made = option_map counted s.since_made }

-- whether a latest key is held of which this is true
abbrev pub is_latest_now : State → (Latest → Bool) → Bool
is_latest_now s test = option_map_or test s.latest false

-- whether the latest key began the retire time ago
abbrev pub retires_now : State → Bool
retires_now s = is_latest_now s (λ l. l.held.begun && l.since_begun == retire_time)

-- the old key, if it is retired now
abbrev pub retired_now : State → Option HeldKey
retired_now s = if retires_now s then s.former else None

-- the state without the old key, where that is retired
abbrev pub after_retiring : State → State
after_retiring s = record s { former = if retires_now s then None else s.former }

-- whether a tick, at which a key server is elected or none is, changes no key, as far as that is told
abbrev pub stays_now : Bool → State → Bool
stays_now elected s =
    elim s.latest [
      | None ↦ is_none s.former
      | Some l ↦ elected && (l.held.begun && not (counted l.since_begun == retire_time))
    ]

-- the keys that are held, dropped
abbrev pub drops_now : State → List Change
drops_now s =
    option_to_list (option_map (λ l. Dropped l.held) s.latest)
    ++ option_to_list (option_map (λ k. Dropped k) s.former)

-- why the latest key, which this life made, begins
abbrev pub lead_cause_now : State → List Report → KeyId → Option Cause
lead_cause_now s live i =
    if list_all (λ r. reports_latest i r.uses) live then Some All
    else if option_map_or (nat_le life_time) s.since_made false then Some Timeout
    else None

-- what begins where the station leads
abbrev pub leads_now : State → List Report → Option (Latest × Cause)
leads_now s live =
    option_and_then (λ l.
    if is_some s.roster && not l.held.begun
    then option_map (λ c. (l, c)) (lead_cause_now s live l.held.key.id)
    else None) s.latest

-- what begins where the station follows
abbrev pub follows_now : State → Uses → Option (Latest × Cause)
follows_now s u =
    option_and_then (λ l.
    if not l.held.begun && transmits l.held.key.id u then Some (l, Flag) else None) s.latest

-- what a beginning changes
abbrev pub beginning_changes : Option (Latest × Cause) → List Change
beginning_changes None = []
beginning_changes (Some b) = Began (begun_now b.0).held b.1 ∷ []

-- the state after a beginning
abbrev pub beginning_state : State → Option (Latest × Cause) → State
beginning_state s None = s
beginning_state s (Some b) = record s { latest = Some (begun_now b.0) }

-- the key that transmits
abbrev pub transmitting_now : State → Option HeldKey
transmitting_now s =
    elim s.latest [ None ↦ s.former | Some l ↦ if l.held.begun then Some l.held else s.former ]

-- whether a key may be installed
abbrev pub allows_now : State → Bool
allows_now s = not (is_latest_now s (λ l. l.held.begun) && is_some s.former)

-- whether this life made the latest key, and the member is in its roster
abbrev pub is_in_roster_now : State → Mi → Bool
is_in_roster_now s m = is_latest_now s (λ l. lists s.roster m)

-- whether this life made the latest key
abbrev pub is_latest_made_now : State → Bool
is_latest_made_now s = is_latest_now s (λ l. is_some s.roster)

-- the reasons for which a key is due
abbrev pub is_one_left_out_now : State → List Report → Bool
is_one_left_out_now s live = list_any (λ r. not (is_in_roster_now s r.mi)) live

abbrev pub is_latest_spent_now : State → List Report → Seen → Rekey → Bool
is_latest_spent_now s live seen limit =
    is_latest_now s (λ l. l.held.begun && is_spent live seen limit l.held.key.id)

abbrev pub is_one_behind_now : State → List Report → Bool
is_one_behind_now s live =
    is_latest_now s (λ l. (l.held.begun && nat_le life_time l.since_begun)
    && list_any (λ r. not (reports l.held.key.id r.uses)) live)

abbrev pub is_key_due_now : State → List Report → Seen → Rekey → Bool
is_key_due_now s live seen limit =
    not (is_latest_made_now s) || (is_one_left_out_now s live
    || (is_latest_spent_now s live seen limit || is_one_behind_now s live))

-- whether the last key that this life made is old enough, or nobody is potential
abbrev pub is_rested_now : State → Bool → Bool
is_rested_now s potential = not potential || option_map_or (nat_le life_time) s.since_made true

-- whether a key is made
abbrev pub makes_now : State → List Report → Bool → Seen → Rekey → Bool
makes_now s live potential seen limit =
    allows_now s && (is_key_due_now s live seen limit && is_rested_now s potential)

-- whether a key, if there is one, has the association number
abbrev pub has_an : AssociationNumber → Option HeldKey → Bool
has_an a None = false
has_an a (Some k) = same_an k.key.an a

-- whether a held key has it
abbrev pub is_used_now : State → AssociationNumber → Bool
is_used_now s a = has_an a (option_map (λ l. l.held) s.latest) || has_an a s.former

-- the association number of the next key
abbrev pub next_an_now : State → AssociationNumber
next_an_now s =
    elim s.last_an [
      | None ↦ An0
      | Some a ↦ if is_used_now s (behind a)
          then if is_used_now s (behind (behind a)) then behind (behind (behind a))
          else behind (behind a)
          else behind a
    ]

-- the next key that is made
abbrev pub made_key_now : State → Bool → Secret → Key
made_key_now s conf sak =
    record {
      id = record { server = s.own; number = s.made + 1 };
      an = next_an_now s;
      sak = sak;
      conf = conf;
      epoch = s.epochs + 1;
    }

-- the key that an offer installs, or the reason why it installs none
abbrev pub judged_now : State → Offer → Option Secret → Result Key Why
judged_now s o sak =
    judged (number_in s.numbers o.server) (allows_now s) (s.epochs + 1) o sak

-- the key, if its association number is another
abbrev pub apart_held : AssociationNumber → Option HeldKey → Option HeldKey
apart_held a None = None
apart_held a (Some k) = if same_an a k.key.an then None else Some k

-- what an install drops of the latest key, and of the old one
abbrev pub drops_latest : AssociationNumber → Option Latest → Option HeldKey
drops_latest a None = None
drops_latest a (Some l) =
    if same_an a l.held.key.an || not l.held.begun then Some l.held else None

abbrev pub drops_former : AssociationNumber → Option HeldKey → Option HeldKey
drops_former a None = None
drops_former a (Some k) = if same_an a k.key.an then Some k else None

-- a key, if there is one, dropped
abbrev pub dropped : Option HeldKey → List Change
dropped o = option_to_list (option_map (λ k. Dropped k) o)

-- what an install changes
abbrev pub install_changes_now : State → Key → List Change
install_changes_now s k =
    (dropped (drops_latest k.an s.latest) ++ dropped (drops_former k.an s.former))
    ++ Installed (shown false k) ∷ []

-- the greatest key number of a server after an install
abbrev pub number_after : List (Mi × ℕ) → KeyId → Mi → Option ℕ
number_after entries i q =
    if is_at (order i.server) q
    then Some (max i.number (unwrap_or (number_in entries i.server) 0))
    else number_in entries q

-- The second state is the first with a key installed, and with its roster where this life made it.
pub record IsInstalled (s : State) (k : Key) (listed : Option (List Mi))
    (t : State) : Type 0 where
  pub own : t.own ≡ s.own
  pub latest : t.latest ≡ Some (record { held = shown false k; since_begun = 0 })
  pub former : t.former ≡ apart_held k.an (transmitting_now s)
  pub roster : t.roster ≡ listed
  pub epochs : t.epochs ≡ s.epochs + 1
  pub numbers : (q : Mi) → number_in t.numbers q ≡ number_after s.numbers k.id q
  pub made : t.made ≡ (if is_some listed then s.made + 1 else s.made)
  pub since_made : t.since_made ≡ (if is_some listed then Some 0 else s.since_made)
  pub last_an : t.last_an ≡ Some k.an
