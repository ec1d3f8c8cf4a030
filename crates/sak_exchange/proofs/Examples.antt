-- The definitions at small histories that were worked out by hand.
use Rattle.std.proofs.Common.{◌≡◌, ℕ, zero, suc, Bool, true, false, List, [], ◌∷◌, map, replicate, Option, Some, None, refl, arith}
use Rattle.std.specs.Prelude.{Ok, Err}
use Rattle.std.specs.Option.{option_map}
use Rattle.aes_block.specs.declared.secret.Secret.TheVariants.{S128, S256}
use Rattle.lan_base.specs.declared.address.Mi.{Mi}
use Rattle.lan_base.specs.declared.association_number.AssociationNumber.{AssociationNumber}
use Rattle.lan_base.specs.declared.association_number.AssociationNumber.TheVariants.{An0, An1, An2, An3}
use Rattle.lan_base.specs.declared.key_id.KeyId.{KeyId}
use Rattle.mkpdu_codec.specs.declared.offset.ConfidentialityOffset.{ConfidentialityOffset}
use Rattle.mkpdu_codec.specs.declared.offset.ConfidentialityOffset.TheVariants as offsets
use Rattle.mkpdu_codec.specs.declared.given.Given.{Given}
use Rattle.mkpdu_codec.specs.declared.key_use.KeyUse.{KeyUse}
use Rattle.mkpdu_codec.specs.declared.wrapped_key.WrappedKey.{WrappedKey}
use Rattle.mkpdu_codec.specs.declared.wrapped_key.WrappedKey.TheVariants.{Aes128, Aes256, Xpn128, Xpn256, Other}
use Rattle.sak_exchange.specs.declared.change.Cause.TheVariants.{All, Timeout, Flag}
use Rattle.sak_exchange.specs.declared.change.Change.TheVariants.{Dropped, Installed}
use Rattle.sak_exchange.specs.declared.change.Why.TheVariants.{NotListed, NotServer, Seen, Retiring, Suite, Offset, Wrap}
use Rattle.sak_exchange.specs.declared.due.Rekey.{Rekey}
use Rattle.sak_exchange.specs.declared.due.Seen as numbers
use Rattle.sak_exchange.specs.declared.offer.Offer.{Offer}
use Rattle.sak_exchange.specs.declared.report.Report.{Report}
use Rattle.sak_exchange.specs.declared.held_key.Key.{Key}
use Rattle.sak_exchange.specs.Histories.{Keying, ticked, installed, began}
use Rattle.sak_exchange.specs.Held.{received, latest, old, transmitting, allows, KeepsRules, shown}
use Rattle.sak_exchange.specs.Beginning.{leads, follows, retired}
use Rattle.sak_exchange.specs.Making.{is_none_of_own, is_one_left_out, is_latest_spent, is_one_behind, makes, is_in_roster, next_an, made_key}
use Rattle.sak_exchange.specs.Taking.{taken}
use Rattle.sak_exchange.specs.Outcomes.{installing}
use Rattle.sak_exchange.specs.Lives.{IsQuiet, IsFresh, IsNumbered, TakesNoneOfOwn}

-- ---- words

abbrev mi : ℕ → Mi
mi n = record { 0 = replicate 12 n }

abbrev id : ℕ → ℕ → KeyId
id server number = record { server = mi server; number = number }

-- the key of a server and a number, under an association number and an epoch
abbrev key : ℕ → ℕ → AssociationNumber → ℕ → Key
key server number an epoch = record { id = id server number; an = an; sak = S128 (replicate 16 number); conf = true; epoch = epoch }

-- spent from number 100 on, and as a member's old key, too
abbrev hundred : Rekey
hundred = record { from = 100; as_old = false }

abbrev hundred_as_old : Rekey
hundred_as_old = record { from = 100; as_old = true }

abbrev ticks : ℕ → List Keying → List Keying
ticks zero h = h
ticks (suc n) h = ticked true ∷ ticks n h

abbrev numbers_in : List Key → List ℕ
numbers_in ks = map (λ k. k.id.number) ks

abbrev number_in : Option Key → Option ℕ
number_in o = option_map (λ k. k.id.number) o

abbrev no_use : KeyUse
no_use = record { server = mi 0; number = 0; an = An0; tx = false; rx = false; lowest = 0 }

-- the use of a key of member 1, with its flags for transmission and reception and its lowest acceptable number
abbrev use_of : ℕ → Bool → Bool → ℕ → KeyUse
use_of number tx rx lowest = record { server = mi 1; number = number; an = An0; tx = tx; rx = rx; lowest = lowest }

-- a live member that says nothing of keys, or that uses a key as its latest one or as its old one
abbrev silent : ℕ → Report
silent m = record { mi = mi m; uses = None }

abbrev with_latest : ℕ → KeyUse → Report
with_latest m u = record { mi = mi m; uses = Some (record { latest = u; old = no_use }) }

abbrev with_old : ℕ → KeyUse → Report
with_old m u = record { mi = mi m; uses = Some (record { latest = no_use; old = u }) }

-- what a tick shows of the numbers
abbrev shows : ℕ → ℕ → numbers.Seen
shows next lowest = record { next = next; latest = lowest; old = 0 }

-- ---- the first key of member 1, which serves, with member 2; then member 3 joins

-- two ticks without a server, and one with
abbrev before : List Keying
before = ticked true ∷ ticked false ∷ ticked false ∷ []

makes_the_first : makes before (silent 2 ∷ []) false (shows 0 1) hundred ≡ true
unfolding received latest old
makes_the_first = refl

the_first : made_key 0 (mi 1) before true (S128 (replicate 16 1)) ≡ key 1 1 An0 1
unfolding received
the_first = refl

abbrev first : List Keying
first = installed (Some (mi 1 ∷ mi 2 ∷ [])) (key 1 1 An0 1) ∷ before

waits_for_a_report : leads (ticks 1 first) (silent 2 ∷ []) ≡ None
unfolding received latest
waits_for_a_report = refl

-- two ticks later all report it
leads_with_all : leads (ticks 2 first) (with_latest 2 (use_of 1 false true 1) ∷ []) ≡ Some (record { key = key 1 1 An0 1; cause = All })
unfolding received latest
leads_with_all = refl

-- a report as the old key is none as the latest
old_is_not_latest : leads (ticks 2 first) (with_old 2 (use_of 1 false true 1) ∷ []) ≡ None
unfolding received latest
old_is_not_latest = refl

leads_after_the_life_time : (leads (ticks 59 first) (silent 2 ∷ []) ≡ None) × (leads (ticks 60 first) (silent 2 ∷ []) ≡ Some (record { key = key 1 1 An0 1; cause = Timeout }))
unfolding received latest
leads_after_the_life_time = (refl, refl)

-- member 2 took it, and follows its server's flag
abbrev taken_first : List Keying
taken_first = installed None (key 1 1 An0 1) ∷ before

follows_the_flag : follows (ticks 2 taken_first) (record { latest = use_of 1 true true 1; old = no_use }) ≡ Some (record { key = key 1 1 An0 1; cause = Flag })
unfolding received latest
follows_the_flag = refl

follows_the_flag_of_an_old_one : follows (ticks 2 taken_first) (record { latest = no_use; old = use_of 1 true true 1 }) ≡ Some (record { key = key 1 1 An0 1; cause = Flag })
unfolding received latest
follows_the_flag_of_an_old_one = refl

follows_no_other_key : follows (ticks 2 taken_first) (record { latest = use_of 2 true true 1; old = use_of 1 false true 1 }) ≡ None
unfolding received latest
follows_no_other_key = refl

leads_with_no_taken_key : leads (ticks 60 taken_first) (with_latest 2 (use_of 1 false true 1) ∷ []) ≡ None
unfolding received latest
leads_with_no_taken_key = refl

abbrev begun : List Keying
begun = ticks 5 (began 1 ∷ ticks 2 first)

held_then : (numbers_in (received begun) ≡ 1 ∷ []) × (number_in (transmitting begun) ≡ Some 1)
unfolding received transmitting
held_then = (refl, refl)

-- member 3 is not in the roster
joins : (makes begun (with_latest 2 (use_of 1 true true 1) ∷ []) false (shows 1 1) hundred ≡ false)
    × (makes begun (with_latest 2 (use_of 1 true true 1) ∷ silent 3 ∷ []) false (shows 1 1) hundred ≡ true)
    × (made_key 0 (mi 1) begun true (S128 (replicate 16 2)) ≡ key 1 2 An1 2)
unfolding received latest old
joins = (refl, refl, refl)

abbrev second : List Keying
second = installed (Some (mi 1 ∷ mi 2 ∷ mi 3 ∷ [])) (key 1 2 An1 2) ∷ begun

-- both are received, and the old one transmits until the new one begins
held_after_the_join : (numbers_in (received second) ≡ 2 ∷ 1 ∷ []) × (number_in (latest second) ≡ Some 2) × (number_in (old second) ≡ Some 1) × (number_in (transmitting second) ≡ Some 1)
    × (is_in_roster second (mi 3) ≡ true) × (is_in_roster begun (mi 3) ≡ false)
unfolding received latest old transmitting
held_after_the_join = (refl, refl, refl, refl, refl, refl)

abbrev rolled : List Keying
rolled = began 2 ∷ ticks 2 second

-- The old one stays until the tick at which the new one began 30 ticks ago. Until then no key may be installed.
retires_then : (number_in (transmitting rolled) ≡ Some 2) × (allows rolled ≡ false) × (number_in (old (ticks 29 rolled)) ≡ Some 1) × (retired (ticks 28 rolled) ≡ None) × (number_in (retired (ticks 29 rolled)) ≡ Some 1)
    × (number_in (old (ticks 30 rolled)) ≡ None) × (number_in (latest (ticks 30 rolled)) ≡ Some 2) × (allows (ticks 30 rolled) ≡ true)
unfolding received latest old transmitting
retires_then = (refl, refl, refl, refl, refl, refl, refl, refl)

drops_all : (received (ticked false ∷ second) ≡ []) × (transmitting (ticked false ∷ second) ≡ None)
unfolding received transmitting
drops_all = (refl, refl)

-- this life keeps the rules that the laws ask for
keeps_the_rules : KeepsRules 0 (ticks 31 rolled) × IsNumbered (mi 1) (ticks 31 rolled) × TakesNoneOfOwn (mi 1) (ticks 31 rolled) × IsQuiet (ticks 2 []) × IsFresh 41 (Some 12)
unfolding received latest old
keeps_the_rules = ((refl, (refl, refl, (refl, (refl, refl, tt)))), (refl, refl, (refl, refl, tt)), tt, (refl, (refl, tt)), omega arith)

-- ---- installs

-- a key that was installed over one that had not begun
over_an_unbegun : (numbers_in (received (installed None (key 1 3 An2 3) ∷ second)) ≡ 3 ∷ 1 ∷ [])
    × ((installing second None (key 1 3 An2 3)).changes ≡ Dropped (shown false (key 1 2 An1 2)) ∷ Installed (shown false (key 1 3 An2 3)) ∷ [])
unfolding received
over_an_unbegun = (refl, refl)

-- a key under the association number of the one that transmits
under_the_same_number : (numbers_in (received (installed None (key 1 2 An0 2) ∷ begun)) ≡ 2 ∷ []) × (transmitting (installed None (key 1 2 An0 2) ∷ begun) ≡ None)
unfolding received transmitting
under_the_same_number = (refl, refl)

-- after two keys that never began, the next number is that of the last one and one; the one that transmits has 0, which is left out
abbrev abandoned : List Keying
abandoned = installed None (key 1 4 An3 4) ∷ installed None (key 1 3 An2 3) ∷ second

leaves_out_a_held_number : (numbers_in (received abandoned) ≡ 4 ∷ 1 ∷ []) × (next_an abandoned ≡ An1)
unfolding received
leaves_out_a_held_number = (refl, refl)

-- a key that was dropped counts: the next one has the next number, and the association number behind that of the last install
counts_a_dropped_key : (next_an (ticked true ∷ ticked false ∷ second) ≡ An2) × (made_key 0 (mi 1) (ticked true ∷ ticked false ∷ second) true (S128 (replicate 16 3)) ≡ key 1 3 An2 3)
unfolding received
counts_a_dropped_key = (refl, refl)

-- ---- a key is due

-- no key is held, or the latest one was taken
due_as_none_is_own : (is_none_of_own before ≡ true) × (is_none_of_own taken_first ≡ true) × (is_none_of_own begun ≡ false)
unfolding received latest
due_as_none_is_own = (refl, refl, refl)

due_as_one_is_left_out : (is_one_left_out begun (silent 2 ∷ []) ≡ false) × (is_one_left_out begun (silent 2 ∷ silent 3 ∷ []) ≡ true)
unfolding received latest
due_as_one_is_left_out = (refl, refl)

-- by the next number, by the own lowest acceptable one, or by that which a live member says
due_as_it_is_spent : (is_latest_spent begun (with_latest 2 (use_of 1 true true 99) ∷ []) (shows 99 99) hundred ≡ false) × (is_latest_spent begun [] (shows 100 99) hundred ≡ true) × (is_latest_spent begun [] (shows 99 100) hundred ≡ true)
    × (is_latest_spent begun (with_latest 2 (use_of 1 false false 100) ∷ []) (shows 99 99) hundred ≡ true) × (is_latest_spent begun (with_old 2 (use_of 1 true true 100) ∷ []) (shows 99 99) hundred ≡ false)
    × (is_latest_spent first [] (shows 100 100) hundred ≡ false)
unfolding received latest
due_as_it_is_spent = (refl, refl, refl, refl, refl, refl)

-- by what a live member says of it as its old key, where that counts
due_as_old : (is_latest_spent begun (with_old 2 (use_of 1 true true 100) ∷ []) (shows 99 99) hundred_as_old ≡ true)
    × (is_latest_spent begun (with_old 2 (use_of 1 true true 99) ∷ []) (shows 99 99) hundred_as_old ≡ false)
unfolding received latest
due_as_old = (refl, refl)

-- the key began five ticks ago
due_as_one_is_behind : (is_one_behind (ticks 54 begun) (silent 2 ∷ []) ≡ false) × (is_one_behind (ticks 55 begun) (silent 2 ∷ []) ≡ true) × (is_one_behind (ticks 55 begun) (with_old 2 (use_of 1 false true 1) ∷ []) ≡ false)
unfolding received latest
due_as_one_is_behind = (refl, refl, refl)

-- The key was made seven ticks ago: while a member is potential, none is made before the life time is over.
rests_while_one_is_potential : (makes before (silent 2 ∷ []) true (shows 0 1) hundred ≡ true) × (makes (ticks 52 begun) (silent 2 ∷ silent 3 ∷ []) true (shows 1 1) hundred ≡ false)
    × (makes (ticks 53 begun) (silent 2 ∷ silent 3 ∷ []) true (shows 1 1) hundred ≡ true)
unfolding received latest old
rests_while_one_is_potential = (refl, refl, refl)

-- ---- a key is offered

abbrev giving : ℕ → ConfidentialityOffset → WrappedKey → Given
giving number offset key = record { an = An1; offset = offset; number = number; key = key }

abbrev given : ℕ → ConfidentialityOffset → Given
given number offset = giving number offset (Aes128 [])

abbrev offer : Given → Bool → Bool → Offer
offer g listed elected = record { given = g; server = mi 1; listed = listed; elected = elected }

-- each reason comes where none before it does
first_reasons : (taken 0 taken_first (offer (given 1 offsets.Octets30) false false) None ≡ Err NotListed) × (taken 0 taken_first (offer (given 1 offsets.Octets30) true false) None ≡ Err NotServer)
    × (taken 0 taken_first (offer (given 1 offsets.Octets30) true true) None ≡ Err (Seen 1)) × (taken 0 rolled (offer (giving 3 offsets.Octets30 Other) true true) None ≡ Err Retiring)
    × (taken 0 taken_first (offer (giving 2 offsets.Octets30 Other) true true) None ≡ Err Suite) × (taken 0 taken_first (offer (given 2 offsets.Octets30) true true) None ≡ Err Offset) × (taken 0 taken_first (offer (given 2 offsets.Octets0) true true) None ≡ Err Wrap)
unfolding received latest old
first_reasons = (refl, refl, refl, refl, refl, refl, refl)

-- a key of a suite with extended packet numbers is of another suite
other_suites : (taken 0 taken_first (offer (giving 2 offsets.Octets0 (Xpn128 [])) true true) None ≡ Err Suite) × (taken 0 taken_first (offer (giving 2 offsets.Octets0 (Xpn256 [])) true true) None ≡ Err Suite)
unfolding received latest old
other_suites = (refl, refl)

-- nor is a key taken that was dropped
takes_no_dropped_key : taken 0 (ticked true ∷ ticked false ∷ taken_first) (offer (given 1 offsets.Octets0) true true) (Some (S128 (replicate 16 1))) ≡ Err (Seen 1)
unfolding received latest old
takes_no_dropped_key = refl

takes_a_key : taken 7 taken_first (offer (given 2 offsets.Octets0) true true) (Some (S128 (replicate 16 2))) ≡ Ok (key 1 2 An1 9)
unfolding received latest old
takes_a_key = refl

-- offset 0 gives integrity alone
takes_a_longer_key : taken 7 taken_first (offer (giving 2 offsets.None (Aes256 [])) true true) (Some (S256 (replicate 32 2))) ≡ Ok (record (key 1 2 An1 9) { sak = S256 (replicate 32 2); conf = false })
unfolding received latest old
takes_a_longer_key = refl
