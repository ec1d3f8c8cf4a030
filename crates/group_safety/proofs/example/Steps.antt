-- Each event of the run, computed. Ciphers stay closed: a wrap gives back what was wrapped.
use Rattle.std.proofs.Common.{◌≡◌, refl, ℕ, List, [], ◌∷◌}
use Rattle.std.proofs.Common.{replicate, true, Some, arith}
use Rattle.std.specs.Prelude.{nat_lt}
use Rattle.lan_base.specs.declared.association_number.AssociationNumber.TheVariants.{An0, An1}
use Rattle.key_wrap.specs.Wrap.{wrapped}
use Rattle.peer_lists.specs.Acceptance.{refusal, accepted, outcome}
use Rattle.peer_lists.specs.Peers.{says, hopes, known}
use Rattle.sak_exchange.specs.Held.{received, latest, old, transmitting}
use Rattle.sak_exchange.specs.Unwrapping.{unwrapped}
use Rattle.mka_station.specs.Lives.{Entry, peers_of, keys_of, elected}
use Rattle.mka_station.specs.Views.{view}
use Rattle.mka_station.specs.Tick.{tick_turn}
use Rattle.mka_station.specs.Hearing.{hear_turn}
use Rattle.mka_station.specs.Restart.{ending}
use Rattle.lan_core.specs.Run.{Profile, stations}
use Rattle.lan_core.specs.Ledgers.{air, installs}
use Rattle.group_safety.proofs.once.Ciphers.{hidden}
use Rattle.group_safety.proofs.once.Living.{group_kek, kek-key}
use Rattle.group_safety.proofs.once.StartKept.{begins}
use Rattle.group_safety.specs.worked.Group.{settings, mi, alice, bob, octets_of_sak, sak}
use Rattle.group_safety.proofs.example.Scene.{octets_of, set_up, Lives, with_one_life}
use Rattle.group_safety.proofs.example.Scene.{Scene}
use Rattle.lan_core.specs.Claims.{user_at}
use Rattle.lan_core.specs.Order.{IsOfSuite, IsSendable}
use Rattle.group_safety.proofs.example.Moves.{Hears, sends, sends-short, tick-moves}
use Rattle.group_safety.proofs.example.Moves.{hear-moves, claim-moves, restart-moves}
use Rattle.group_safety.proofs.example.Run as scene
use Rattle.group_safety.proofs.example.Run.{users}
use Rattle.group_safety.proofs.example.Run.{first_key, second_key}
use Rattle.group_safety.proofs.example.Good.{mi_is, sak_is, good_a1, good_b1, good_a2}
use Rattle.group_safety.proofs.example.Good.{good_b2, good_a3, good_c1, good_a4, good_c2, good_a5}

unfoldable pub opens : ℕ
unfolding refusal accepted outcome says hopes known received latest old transmitting peers_of
    keys_of elected view hear_turn tick_turn ending stations air installs
opens = 0

-- the life of a station with another history
abbrev pub goes : ℕ → List Entry → Lives → Lives
goes s p ls = with_one_life s (record (ls s) { past = p }) ls

abbrev pub l2 : Lives
l2 = with_one_life 1 (begins settings bob (mi 2) 0)
    (with_one_life 0 (begins settings alice (mi 1) 0) (λ s. begins settings alice (mi 0) 0))

abbrev pub both : List Profile
both = alice ∷ bob ∷ []

abbrev pub l3 : Lives
l3 = goes 0 scene.alice1 l2

abbrev pub l4 : Lives
l4 = goes 1 scene.bob1 l3

abbrev pub l5 : Lives
l5 = goes 1 scene.bob2 l4

abbrev pub l6 : Lives
l6 = goes 0 scene.alice2 l5

abbrev pub l7 : Lives
l7 = goes 0 scene.alice3 l6

abbrev pub l8 : Lives
l8 = goes 1 scene.bob3 l7

abbrev pub l9 : Lives
l9 = goes 1 scene.bob4 l8

abbrev pub l10 : Lives
l10 = goes 0 scene.alice4 l9

abbrev pub l11 : Lives
l11 = goes 0 scene.alice5 l10

abbrev pub l13 : Lives
l13 = with_one_life 1 (begins settings bob (mi 3) 1) l11

abbrev pub l14 : Lives
l14 = goes 1 scene.carol1 l13

abbrev pub l15 : Lives
l15 = goes 1 scene.carol2 l14

abbrev pub l16 : Lives
l16 = goes 0 scene.alice6 l15

abbrev pub l17 : Lives
l17 = goes 0 scene.alice7 l16

abbrev pub l18 : Lives
l18 = goes 1 scene.carol3 l17

abbrev pub l19 : Lives
l19 = goes 1 scene.carol4 l18

abbrev pub l20 : Lives
l20 = goes 0 scene.alice8 l19

abbrev pub l21 : Lives
l21 = goes 0 scene.alice9 l20

-- what a wrap hides
pub unwrapped-wrapped_sak : (n : ℕ) → nat_lt n 256 ≡ true
    → unwrapped 16 (group_kek settings) (wrapped (group_kek settings) (octets_of_sak n))
    ≡ Some (octets_of_sak n)
unwrapped-wrapped_sak n small = hidden 16 (group_kek settings) (octets_of_sak n)
    (kek-key settings set_up)
    (omega arith) (sak_is n small)

-- ---- alice says something, bob answers, and alice makes a key

s3 : Scene users both scene.r2 l2 → Scene users both scene.r3 l3
unfolding opens
s3 v =
    tick-moves users both scene.r2 l2 0 0 _ scene.alice1 (sends 1 0 alice scene.a1) v
    (record { shows = refl; past = refl }) (omega arith) (omega arith, omega arith)
    refl tt refl (sends-short 1 0 alice scene.a1 good_a1) refl refl (λ ahead. refl)

s4 : Scene users both scene.r3 l3 → Scene users both scene.r4 l4
unfolding opens
s4 v =
    hear-moves users both scene.r3 l3 1 1 _ scene.a1 scene.bob1 alice _ v
    (record { shows = refl; past = refl }) good_a1 (omega arith) (omega arith, omega arith) refl
    refl bob refl refl refl refl (λ ahead. refl)

s5 : Scene users both scene.r4 l4 → Scene users both scene.r5 l5
unfolding opens
s5 v =
    tick-moves users both scene.r4 l4 1 0 _ scene.bob2 (sends 2 1 bob scene.b1) v
    (record { shows = refl; past = refl }) (omega arith) (omega arith, omega arith)
    refl tt refl (sends-short 2 1 bob scene.b1 good_b1) refl refl (λ ahead. refl)

s6 : Scene users both scene.r5 l5 → Scene users both scene.r6 l6
unfolding opens
s6 v =
    hear-moves users both scene.r5 l5 0 2 _ scene.b1 scene.alice2 bob _ v
    (record { shows = refl; past = refl }) good_b1 (omega arith) (omega arith, omega arith) refl
    refl alice refl refl refl refl (λ ahead. refl)

pub drawn : (n : ℕ) → nat_lt n 256 ≡ true → IsOfSuite settings (sak n)
drawn n small = record { secret = sak_is n small; bits = refl }

s7 : Scene users both scene.r6 l6 → Scene users both scene.r7 l7
unfolding opens
s7 v =
    tick-moves users both scene.r6 l6 0 0 _ scene.alice3 (sends 3 0 alice scene.a2) v
    (record { shows = refl; past = refl }) (omega arith) (omega arith, omega arith)
    refl (drawn 1 refl) refl (sends-short 3 0 alice scene.a2 good_a2) refl refl (λ ahead. refl)

-- ---- bob takes it, and says so; alice begins it, and claims a number

takes_first : Hears scene.r7 1 3 (scene.takes 3 1 An0) (l7 1) scene.a2 scene.bob3
unfolding opens
takes_first = record {
  shows = rw (unwrapped-wrapped_sak 1 refl) refl;
  past = rw (unwrapped-wrapped_sak 1 refl) refl;
}

s8 : Scene users both scene.r7 l7 → Scene users both scene.r8 l8
unfolding opens
s8 v =
    hear-moves users both scene.r7 l7 1 3 _ scene.a2 scene.bob3 alice _ v
    takes_first good_a2 (omega arith) (omega arith, omega arith) refl refl bob refl refl refl refl
    (λ ahead. refl)

s9 : Scene users both scene.r8 l8 → Scene users both scene.r9 l9
unfolding opens
s9 v =
    tick-moves users both scene.r8 l8 1 0 _ scene.bob4 (sends 4 1 bob scene.b2) v
    (record { shows = refl; past = refl }) (omega arith) (omega arith, omega arith)
    refl tt refl (sends-short 4 1 bob scene.b2 good_b2) refl refl (λ ahead. refl)

s10 : Scene users both scene.r9 l9 → Scene users both scene.r10 l10
unfolding opens
s10 v =
    hear-moves users both scene.r9 l9 0 4 _ scene.b2 scene.alice4 bob _ v
    (record { shows = refl; past = refl }) good_b2 (omega arith) (omega arith, omega arith) refl
    refl alice refl refl refl refl (λ ahead. refl)

s11 : Scene users both scene.r10 l10 → Scene users both scene.r11 l11
unfolding opens
s11 v =
    tick-moves users both scene.r10 l10 0 0 _ scene.alice5 (sends 5 0 alice scene.a3) v
    (record { shows = refl; past = refl }) (omega arith) (omega arith, omega arith)
    refl tt refl (sends-short 5 0 alice scene.a3 good_a3) refl refl (λ ahead. refl)

pub a-user : IsSendable (user_at users 1)
a-user = record {
  destination = (refl, octets_of (replicate 6 1) refl);
  body = (omega arith, omega arith);
  octets = octets_of (8 ∷ 0 ∷ 1 ∷ []) refl;
}

s12 : Scene users both scene.r11 l11 → Scene users both scene.r12 l11
unfolding opens
s12 v =
    claim-moves users both scene.r11 l11 0 1 1 first_key _ v refl (omega arith)
    (omega arith, omega arith, omega arith)
    refl refl (omega arith) (omega arith) a-user refl refl refl (λ ahead. refl)

-- ---- bob starts again, and alice makes a second key

s13 : Scene users both scene.r12 l11 → Scene users both scene.r13 l13
unfolding opens
s13 v =
    restart-moves users both scene.r12 l11 1 bob (mi 3) 1 _ v (omega arith) (omega arith) refl refl
    (mi_is 3 refl)
    refl refl refl refl refl (λ ahead. refl)

s14 : Scene users both scene.r13 l13 → Scene users both scene.r14 l14
unfolding opens
s14 v =
    hear-moves users both scene.r13 l13 1 5 _ scene.a3 scene.carol1 alice _ v
    (record { shows = refl; past = refl }) good_a3 (omega arith) (omega arith, omega arith) refl
    refl bob refl refl refl refl (λ ahead. refl)

s15 : Scene users both scene.r14 l14 → Scene users both scene.r15 l15
unfolding opens
s15 v =
    tick-moves users both scene.r14 l14 1 0 _ scene.carol2 (sends 6 1 bob scene.c1) v
    (record { shows = refl; past = refl }) (omega arith) (omega arith, omega arith)
    refl tt refl (sends-short 6 1 bob scene.c1 good_c1) refl refl (λ ahead. refl)

s16 : Scene users both scene.r15 l15 → Scene users both scene.r16 l16
unfolding opens
s16 v =
    hear-moves users both scene.r15 l15 0 6 _ scene.c1 scene.alice6 bob _ v
    (record { shows = refl; past = refl }) good_c1 (omega arith) (omega arith, omega arith) refl
    refl alice refl refl refl refl (λ ahead. refl)

s17 : Scene users both scene.r16 l16 → Scene users both scene.r17 l17
unfolding opens
s17 v =
    tick-moves users both scene.r16 l16 0 2 _ scene.alice7 (sends 7 0 alice scene.a4) v
    (record { shows = refl; past = refl }) (omega arith) (omega arith, omega arith)
    (omega arith, omega arith) (drawn 2 refl) refl
    (sends-short 7 0 alice scene.a4 good_a4) refl refl (λ ahead. refl)

-- ---- the new life takes it; alice begins it, and claims a number under it

takes_second : Hears scene.r17 1 7 (scene.takes 7 2 An1) (l17 1) scene.a4 scene.carol3
unfolding opens
takes_second = record {
  shows = rw (unwrapped-wrapped_sak 2 refl) refl;
  past = rw (unwrapped-wrapped_sak 2 refl) refl;
}

s18 : Scene users both scene.r17 l17 → Scene users both scene.r18 l18
unfolding opens
s18 v =
    hear-moves users both scene.r17 l17 1 7 _ scene.a4 scene.carol3 alice _ v
    takes_second good_a4 (omega arith) (omega arith, omega arith) refl refl bob refl refl refl refl
    (λ ahead. refl)

s19 : Scene users both scene.r18 l18 → Scene users both scene.r19 l19
unfolding opens
s19 v =
    tick-moves users both scene.r18 l18 1 0 _ scene.carol4 (sends 8 1 bob scene.c2) v
    (record { shows = refl; past = refl }) (omega arith) (omega arith, omega arith)
    refl tt refl (sends-short 8 1 bob scene.c2 good_c2) refl refl (λ ahead. refl)

s20 : Scene users both scene.r19 l19 → Scene users both scene.r20 l20
unfolding opens
s20 v =
    hear-moves users both scene.r19 l19 0 8 _ scene.c2 scene.alice8 bob _ v
    (record { shows = refl; past = refl }) good_c2 (omega arith) (omega arith, omega arith) refl
    refl alice refl refl refl refl (λ ahead. refl)

s21 : Scene users both scene.r20 l20 → Scene users both scene.r21 l21
unfolding opens
s21 v =
    tick-moves users both scene.r20 l20 0 2 _ scene.alice9 (sends 9 0 alice scene.a5) v
    (record { shows = refl; past = refl }) (omega arith) (omega arith, omega arith)
    (omega arith, omega arith) tt refl
    (sends-short 9 0 alice scene.a5 good_a5) refl refl (λ ahead. refl)

s22 : Scene users both scene.r21 l21 → Scene users both scene.run l21
unfolding opens
s22 v =
    claim-moves users both scene.r21 l21 0 1 2 second_key _ v refl (omega arith)
    (omega arith, omega arith, omega arith)
    refl refl (omega arith) (omega arith) a-user refl refl refl (λ ahead. refl)

-- ---- all of them

pub begun : Scene users both scene.r2 l2 → Scene users both scene.r11 l11
begun v = s11 (s10 (s9 (s8 (s7 (s6 (s5 (s4 (s3 v))))))))

-- bob's new life says hello; it reports the second key; alice begins that
pub restarted : Scene users both scene.r2 l2 → Scene users both scene.r16 l16
restarted v = s16 (s15 (s14 (s13 (s12 (begun v)))))

pub reported : Scene users both scene.r2 l2 → Scene users both scene.r20 l20
reported v = s20 (s19 (s18 (s17 (restarted v))))

pub replaced : Scene users both scene.r2 l2 → Scene users both scene.r21 l21
replaced v = s21 (reported v)

pub whole : Scene users both scene.r2 l2 → Scene users both scene.run l21
whole v = s22 (replaced v)
