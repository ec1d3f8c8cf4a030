-- A quiet tick.
use Rattle.std.proofs.Common.{◌≡◌, ◌∙◌, Bool, true, false, cond, List, [], ◌∷◌, ◌++◌, Option, Some, None, is_some, option_map, refl, ap, sym}
use Rattle.lan_base.specs.declared.address.Mi.{Mi}
use Rattle.lan_base.specs.Identifiers.{same_mi}
use Rattle.aes_block.specs.declared.secret.Secret.{Secret}
use Rattle.peer_lists.specs.declared.heard.Row.{Row}
use Rattle.sak_exchange.specs.declared.change.Change.{Change}
use Rattle.sak_exchange.specs.declared.due.Seen.{Seen}
use Rattle.sak_exchange.specs.Histories.{Keying, ticked as keys_ticked}
use Rattle.sak_exchange.specs.Beginning.{Beginning, leads}
use Rattle.sak_exchange.specs.Outcomes.{beginning}
use Rattle.sak_exchange.specs.Stills.{IsStill}
use Rattle.sak_exchange.proofs.Public.{same-equal}
use Rattle.mka_station.specs.Lives.{Member, Entry, keys_of}
use Rattle.mka_station.specs.Views.{is_server}
use Rattle.mka_station.specs.Announcing.{same_option, frame_of}
use Rattle.mka_station.specs.Tick.{ended, ticked_past, says_at, tick_turn}
use Rattle.mka_station.specs.Drawing.{makes_next}
use Rattle.mka_station.specs.Standing.{State, StandsFor}
use Rattle.mka_station.specs.inside.Due.{shown_by, is_due_after}
use Rattle.mka_station.specs.inside.Found.{Found, IsFoundNext}
use Rattle.mka_station.specs.inside.Quiet.{IsQuiet, IsQuietTurn}
use Rattle.mka_station.proofs.PeerViews.{led_by, ticked_with, past-begun, changes-begun}
use Rattle.mka_station.proofs.Ticks.{past-keys, past-installed, past-said, reacts}

same-servers : (one other : Option Mi) → same_option same_mi one other ≡ true → one ≡ other
same-servers None None is = refl
same-servers None (Some j) is = absurd (cc (is))
same-servers (Some i) None is = absurd (cc (is))
same-servers (Some i) (Some j) is = ap Some (same-equal i j is)

shown-still : (elected : Bool) (h : List Keying) (rows : List Row) (server : Option Mi) → IsStill elected h → shown_by rows server (keys_ticked elected ∷ h) ≡ shown_by rows server h
shown-still elected h rows server still = rw (still.latest, still.old, still.transmitting) refl

none-ends : (h : List Keying) (server : Option Mi) → IsStill (is_some server) h → ended h server ≡ []
none-ends h None still = still.ended
none-ends h (Some s) still = still.ended

neither : {A : Type 0} (b : Bool) (o : Option A) → o ≡ None → cond b o None ≡ None
neither true o is = is
neither false o is = refl

none-leads : (m : Member) (p : List Entry) (c : Found) → IsStill (is_some c.server) (keys_of m p) → led_by c.server m.mi (ticked_with m p c) c.reports ≡ None
none-leads m p c still = neither (is_server c.server m.mi) (leads (ticked_with m p c) c.reports) (still.unled c.reports)

unsaid : {A : Type 0} (b : Bool) (o : Option A) → b ≡ false → cond b o None ≡ None
unsaid true o is = absurd (cc (is))
unsaid false o is = refl

no-sak : (m : Member) (p : List Entry) (seen : Seen) (any : Secret) → makes_next m p seen ≡ false → None ≡ cond (makes_next m p seen) (Some any) None
no-sak m p seen any unmade = sym (unsaid (makes_next m p seen) (Some any) unmade)

-- the keys behind a quiet tick
quiet-keys : (m : Member) (p : List Entry) (c : Found) (seen : Seen) (any : Secret) → IsFoundNext m p c → IsStill (is_some c.server) (keys_of m p) → makes_next m p seen ≡ false
    → keys_ticked (is_some c.server) ∷ keys_of m p ≡ keys_of m (ticked_past m seen any p)
quiet-keys m p c seen any comes still unmade =
    sym (ap (λ (b : Option Beginning). (beginning (ticked_with m p c) b).past) (none-leads m p c still)) ∙ past-begun m p c comes
    ∙ past-keys m p c seen any None m.setup.conf comes (no-sak m p seen any unmade) refl

quiet-silent : (m : Member) (s : State) (p : List Entry) (c : Found) (seen : Seen) (any : Secret) → StandsFor m s p → IsFoundNext m p c → IsQuiet s c (keys_of m p) → makes_next m p seen ≡ false → says_at m seen any p ≡ None
quiet-silent m s p c seen any stands comes quiet unmade =
    let h = keys_of m p in
    let undue : is_due_after s.spoken (shown_by c.rows c.server (keys_of m (ticked_past m seen any p))) ≡ false =
    ap (λ (g : List Keying). is_due_after s.spoken (shown_by c.rows c.server g)) (sym (quiet-keys m p c seen any comes quiet.still unmade))
    ∙ ap (is_due_after s.spoken) (shown-still (is_some c.server) h c.rows c.server quiet.still) ∙ quiet.undue in
    sym (past-said m s c p seen any stands comes) ∙ unsaid (is_due_after s.spoken (shown_by c.rows c.server (keys_of m (ticked_past m seen any p)))) _ undue

pub quiet-turn : (m : Member) (s : State) (p : List Entry) (c : Found) (seen : Seen) (any : Secret) → StandsFor m s p → IsFoundNext m p c → IsQuiet s c (keys_of m p) → makes_next m p seen ≡ false
    → IsQuietTurn m p seen any (is_some c.server)
quiet-turn m s p c seen any stands comes quiet unmade =
    record {
      keys = sym (quiet-keys m p c seen any comes quiet.still unmade);
      still = quiet.still;
      silent = quiet-silent m s p c seen any stands comes quiet unmade;
      server = sym comes.server ∙ sym (same-servers s.server c.server quiet.same) ∙ stands.server;
      unmade = unmade;
    }

-- what changes at a quiet tick: nothing
none-passes : (m : Member) (p : List Entry) (c : Found) → IsFoundNext m p c → IsStill (is_some c.server) (keys_of m p)
    → ended (keys_of m p) c.server ++ (beginning (ticked_with m p c) (led_by c.server m.mi (ticked_with m p c) c.reports)).changes ≡ []
none-passes m p c comes still =
    ap (λ (xs : List Change). xs ++ (beginning (ticked_with m p c) (led_by c.server m.mi (ticked_with m p c) c.reports)).changes) (none-ends (keys_of m p) c.server still)
    ∙ ap (λ (b : Option Beginning). (beginning (ticked_with m p c) b).changes) (none-leads m p c still)

pub quiet-reaction : (m : Member) (s : State) (p : List Entry) (c : Found) (seen : Seen) (any : Secret) → StandsFor m s p → IsFoundNext m p c → IsQuiet s c (keys_of m p) → makes_next m p seen ≡ false
    → record { heard = None; server = None; changes = []; sent = None } ≡ (tick_turn m seen any p).reaction
quiet-reaction m s p c seen any stands comes quiet unmade =
    reacts m s c p seen any None [] [] [] None stands comes
    (sym (ap (λ (b : Bool). cond b None (Some c.server)) quiet.same))
    refl
    (sym (none-passes m p c comes quiet.still) ∙ changes-begun m p c comes)
    (past-installed m p c seen any None m.setup.conf comes (no-sak m p seen any unmade) refl)
    (sym (ap (option_map (frame_of m.setup)) (quiet-silent m s p c seen any stands comes quiet unmade)))
