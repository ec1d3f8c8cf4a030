-- A run that meets the premises of the laws: two stations, three lives, two keys and two claims.
-- And what the definitions say of it, and of a run in which a packet number is used twice.
use Rattle.std.proofs.Common.{◌≡◌, ◌≢◌, refl, ap, ℕ, List, [], ◌∷◌, Some, arith}
use Rattle.std.proofs.lemmas.List.Elements.{All-nil, All-cons}
use Rattle.std.specs.Prelude.{slice_index}
use Rattle.lan_base.specs.declared.association_number.AssociationNumber.TheVariants.{An0, An1}
use Rattle.lan_base.specs.declared.address.Sci.{Sci}
use Rattle.aes_block.specs.Secrets.{secret_octets}
use Rattle.lan_core.specs.declared.event.Event.TheVariants as events
use Rattle.lan_core.specs.declared.fact.Fact.TheVariants as facts
use Rattle.peer_lists.specs.Acceptance.{refusal, accepted, outcome}
use Rattle.peer_lists.specs.Peers.{says, hopes, known as known_members}
use Rattle.peer_lists.specs.declared.heard.PeerRefusal.TheVariants.{OldNumber}
use Rattle.sak_exchange.specs.Held.{received, latest, old, transmitting}
use Rattle.sak_exchange.specs.declared.change.Why.TheVariants.{NotListed}
use Rattle.mka_station.specs.declared.verdict.Verdict.TheVariants.{Unvouched, Dropped}
use Rattle.mka_station.specs.declared.verdict.DropReason.TheVariants.{Refused}
use Rattle.mka_station.specs.Lives.{peers_of, keys_of, elected}
use Rattle.mka_station.specs.Views.{view}
use Rattle.mka_station.specs.Hearing.{hear_turn}
use Rattle.lan_core.specs.Expected.{reaction_facts}
use Rattle.lan_core.specs.Run.{Run, Profile, happened, stations}
use Rattle.lan_core.specs.Ledgers.{air, births, claims, installs}
use Rattle.lan_core.specs.Lives.{receiving}
use Rattle.lan_core.specs.Legal.{IsLegal, none_ahead}
use Rattle.lan_core.specs.Fresh.{IsFresh, IsUnforged, drawn_saks}
use Rattle.group_safety.specs.Once.{sak_of, sci_of, Once, OneKey, Drawn, makes}
use Rattle.group_safety.proofs.Members.{contains-in}
use Rattle.group_safety.proofs.once.StartKept.{begins}
use Rattle.group_safety.proofs.once.RunLaws.{known, run-once, run-one_key, run-drawn}
use Rattle.group_safety.specs.worked.Group.{settings, mi, sci, alice, bob, octets_of_sak, sak, id}
use Rattle.group_safety.proofs.example.Scene.{Lives, with_one_life, Scene}
use Rattle.group_safety.proofs.example.Moves.{start-moves}
use Rattle.group_safety.proofs.example.Run.{users, r2}
use Rattle.group_safety.proofs.example.Run.{a2, b2, r7, r12, r16, r20, r21, run}
use Rattle.group_safety.proofs.example.Good.{mi_is, sci_is}
use Rattle.group_safety.proofs.example.Steps.{both, l2, l13, l16, l20, l21, whole}
use Rattle.group_safety.proofs.example.Steps.{restarted, reported, replaced}

-- ---- the two starts

abbrev l0 : Lives
l0 = λ s. begins settings alice (mi 0) 0

nothing : Scene users [] [] l0
unfolding stations receiving air
nothing = record {
  there = refl;
  living = λ s less. absurd (omega arith);
  silent = λ s. tt;
  short = λ f i. elim i [ ];
  stepped = tt;
  excused = λ ahead. tt;
  unforged = tt;
}

abbrev IsOther : List ℕ → Sci → Profile → Type 0
IsOther name sci p = (p.name ≢ name) × (p.sci ≢ sci)

alice_is_other : IsOther bob.name bob.sci alice
alice_is_other = (
  λ same. let octet : 65 ≡ 66 = ap (λ name. slice_index name 0) same in omega (arith, octet),
  λ same. let octet : 10 ≡ 11 = ap (λ (sci : Sci). slice_index sci.0 5) same in
      omega (arith, octet),
)

alice_starts : Scene users (alice ∷ [])
    (happened (events.Start alice.name alice.sci alice.priority) (facts.Life 0 (mi 1) ∷ []) ∷ [])
    (with_one_life 0 (begins settings alice (mi 1) 0) l0)
unfolding stations installs air
alice_starts =
    start-moves users [] [] l0 alice (mi 1) 0 nothing
    ((search, sci_is 10 refl, omega arith), (All-nil (IsOther alice.name alice.sci), mi_is 1 refl))
    refl refl refl

pub bob_starts : Scene users both r2 l2
unfolding stations installs air
bob_starts =
    start-moves users (alice ∷ []) _ (with_one_life 0 (begins settings alice (mi 1) 0) l0) bob
    (mi 2) 0 alice_starts (
      (search, sci_is 11 refl, omega arith),
      (
        All-cons (IsOther bob.name bob.sci) alice [] alice_is_other
            (All-nil (IsOther bob.name bob.sci)),
        mi_is 2 refl,
      ),
    ) refl refl refl

-- ---- the run meets the premises

-- before the second key is made, once it is reported, and as alice begins it
pub v16 : Scene users both r16 l16
v16 = restarted bob_starts

pub v20 : Scene users both r20 l20
v20 = reported bob_starts

pub v21 : Scene users both r21 l21
v21 = replaced bob_starts

ends : Scene users both run l21
ends = whole bob_starts

pub legal : IsLegal settings users run
legal = record { stepped = ends.stepped; excused = ends.excused none_ahead }

pub unforged : IsUnforged settings run
unforged = ends.unforged

pub mis_differ : (m n : ℕ) → m ≢ n → mi m ≢ mi n
mis_differ m n differ same = differ (ap (λ mi. slice_index mi.0 11) same)

pub saks_differ : (m n : ℕ) → m ≢ n → octets_of_sak m ≢ octets_of_sak n
saks_differ m n differ same = differ (ap (λ octets. slice_index octets 15) same)

pub fresh : IsFresh run
unfolding births drawn_saks
fresh = record {
  mis = (
    (mis_differ 3 2 (λ same. omega arith), (mis_differ 3 1 (λ same. omega arith), tt)),
    ((mis_differ 2 1 (λ same. omega arith), tt), (tt, tt)),
  );
  saks = ((saks_differ 2 1 (λ same. omega arith), tt), (tt, tt));
}

-- ---- and the laws speak of it

two_claims : claims run ≡
    record { station = 0; an = An1; epoch = 2; pn = 2 }
    ∷ record { station = 0; an = An0; epoch = 1; pn = 1 } ∷ []
unfolding claims
two_claims = refl

four_installs : installs run ≡
    record { station = 1; id = id 2; an = An1; epoch = 2; sak = sak 2 }
    ∷ record { station = 0; id = id 2; an = An1; epoch = 2; sak = sak 2 }
    ∷ record { station = 1; id = id 1; an = An0; epoch = 1; sak = sak 1 }
    ∷ record { station = 0; id = id 1; an = An0; epoch = 1; sak = sak 1 } ∷ []
unfolding installs
four_installs = refl

two_makes : makes run ≡
    record { station = 0; id = id 2; an = An1; epoch = 2; sak = sak 2 }
    ∷ record { station = 0; id = id 1; an = An0; epoch = 1; sak = sak 1 } ∷ []
unfolding makes
two_makes = refl

-- what the two claims use
second_use : sak_of run (record { station = 0; an = An1; epoch = 2; pn = 2 })
    ≡ Some (octets_of_sak 2)
unfolding installs
second_use = refl

first_use : sak_of run (record { station = 0; an = An0; epoch = 1; pn = 1 })
    ≡ Some (octets_of_sak 1)
unfolding installs
first_use = refl

by_alice : sci_of run 0 ≡ Some (sci 10)
unfolding stations
by_alice = refl

each_once : Once run
each_once = run-once settings users run (known settings users run legal.stepped unforged) fresh

one_key : OneKey run
one_key = run-one_key settings users run (known settings users run legal.stepped unforged) fresh

each_drawn : Drawn run
each_drawn = run-drawn settings users run (known settings users run legal.stepped unforged) fresh

-- ---- the life that bob begins again

opens : ℕ
unfolding refusal accepted outcome says hopes known_members received latest old transmitting
    peers_of keys_of elected view hear_turn
opens = 0

-- the frame that gave the first key reaches it: it names the earlier life alone
a_restarted_member_takes_nothing :
    reaction_facts 1 3 0 (hear_turn (l13 1).member a2 (l13 1).past).reaction ≡
    facts.HeardMka 3 1 Unvouched ∷ facts.Untaken 1 (id 1) NotListed ∷ []
unfolding opens
a_restarted_member_takes_nothing = refl

-- a hello of the earlier life that comes again late is old
a_late_hello_of_the_earlier_life_is_old :
    reaction_facts 0 4 0 (hear_turn (l16 0).member b2 (l16 0).past).reaction ≡
    facts.HeardMka 4 0 (Dropped (Refused (OldNumber 2))) ∷ []
unfolding opens
a_late_hello_of_the_earlier_life_is_old = refl

-- ---- what is refused

-- the number is claimed again
abbrev again : Run
again = happened (events.Claim 0 1 1) (facts.Claimed 0 An0 1 1 ∷ []) ∷ r12

twice : ¬ (Once again)
unfolding claims installs stations
twice once = once.0.0 refl

-- a station installs another key under an identifier
abbrev another : Run
another = happened (events.Deliver 3 1) (facts.Installed 1 (id 1) An0 1 (sak 2) ∷ []) ∷ r7

two_under_one : ¬ (OneKey another)
unfolding installs
two_under_one one =
    let same : sak 2 ≡ sak 1 = (one _ _ (0, omega arith, refl) (1, omega arith, refl) refl).0 in
    saks_differ 2 1 (λ e. omega (arith, e)) (ap secret_octets same)

-- a station installs a key that nobody made
abbrev from_nowhere : Run
from_nowhere = happened (events.Deliver 3 1) (facts.Installed 1 (id 1) An0 1 (sak 1) ∷ []) ∷ r2

never_made : ¬ (Drawn from_nowhere)
unfolding installs makes
never_made drawn =
    elim (contains-in (makes from_nowhere) _ (drawn _ (0, omega arith, refl)).1.made_there) [ ]
