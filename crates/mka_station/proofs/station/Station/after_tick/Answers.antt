use Rattle.std.proofs.Common.{◌≡◌, ◌∙◌, ◌++◌, ℕ, Bool, false, cond, None, Some, List, Option, ap, sym, subst, arith}
use Rattle.std.specs.List.{list_any}
use Rattle.std.specs.Option.{option_map}
use Rattle.lan_base.specs.declared.address.Mi.{Mi}
use Rattle.lan_base.specs.Identifiers.{same_mi}
use Rattle.sak_exchange.specs.declared.report.Report.{Report}
use Rattle.sak_exchange.specs.declared.due.Seen.{Seen}
use Rattle.sak_exchange.specs.declared.due.Rekey.{Rekey}
use Rattle.sak_exchange.specs.Histories.{Keying}
use Rattle.sak_exchange.specs.Making.{makes, made_roster}
use Rattle.sak_exchange.specs.Outcomes.{Effect}
use Rattle.sak_exchange.specs.Standing.{State as Keys, StandsFor as KeysStandFor}
use Rattle.mka_station.specs.Lives.{Setup, keys_of}
use Rattle.mka_station.specs.Views.{is_server}
use Rattle.mka_station.specs.Announcing.{Shown, frame_of, same_option}
use Rattle.mka_station.specs.Tick.{ended, install_changes, begun_past, ticked_past, says_at}
use Rattle.mka_station.specs.Standing.{State}
use Rattle.mka_station.specs.inside.Due.{shown_by}
use Rattle.mka_station.specs.inside.Found.{Found}
use Rattle.mka_station.specs.inside.Turns.{made_by, keys_made, IsDue}
use Rattle.mka_station.proofs.PeerViews.{passed_with, passed-same, past-begun, changes-begun}
use Rattle.mka_station.proofs.Makes.{is-due}
use Rattle.mka_station.proofs.Ticks.{past-keys, past-installed, past-said, past-shown, reacts}
use Rattle.mka_station.proofs.station.Station.after_tick.Goals as goal

pub make-requires : goal.make-requires
make-requires c =
    let e = ap (λ (k : Keys). k.epochs) (c.in_ok-keys.ensures ∙ c.keys.ensures) in record { few = omega (arith, e, c.pass_keys.ensures.epochs, c.requires.room.keys) }

pub returns : goal.returns
returns c = λ m p any s comes is.
    let now = c.args.self.now in
    let found = c.args.peer_view.now in
    let seen = c.args.seen.now in
    let sak = c.args.sak in
    let h = keys_of m p in
    let h2 = keys_of m (begun_past m p) in
    let h3 = keys_of m (ticked_past m seen any p) in
    let S = c.peer_view.inside.server in
    let B = c.is_server-serves.result in
    let R = c.deref.result.now in
    let d = c.due-due.result in
    let server_is : S ≡ found.server = ap (λ (f : Found). f.server) c.peer_view.view_is in
    let serves_is : B ≡ is_server found.server m.mi = c.is_server-serves.ensures ∙ ap (λ (o : Option Mi). is_server o c.mi.result.now) server_is ∙ ap (λ (i : Mi). is_server found.server i) (c.mi.ensures ∙ s.mi) in
    let told_is : R ≡ found.reports = c.deref.ensures.value ∙ ap (λ (f : Found). f.reports) c.peer_view.view_is in
    let same_effect = passed-same h S found.server B (is_server found.server m.mi) R found.reports server_is serves_is told_is in
    let k0 = subst (λ (x : Keys). KeysStandFor m.base m.mi false x h) (sym (c.in_ok-keys.ensures ∙ c.keys.ensures)) s.keys in
    let passed = c.in_ok-passed.ensures.changes m.base m.mi h k0
    ∙ ap (λ (x : Option Mi). ended h x ++ (passed_with h S B R).changes) server_is
    ∙ ap (λ (x : Effect). ended h found.server ++ x.changes) same_effect
    ∙ changes-begun m p found comes in
    let k2 = subst (λ (g : List Keying). KeysStandFor m.base m.mi false c.pass_keys.new.keys g) (ap (λ (x : Effect). x.past) same_effect ∙ past-begun m p found comes) (c.in_ok-passed.ensures.stands m.base m.mi h k0) in
    let setup_is = ap (λ (x : State). x.setup) c.self.view_is ∙ s.setup in
    let conf = c.due-due.ensures.conf ∙ ap (λ (x : Setup). x.conf) setup_is in
    let rekey = c.due-due.ensures.rekey ∙ ap (λ (x : Setup). x.rekey) setup_is in
    let same : makes h2 d.live.now d.potential d.seen d.rekey ≡ makes h2 found.reports (list_any (λ x. x.potential) found.rows) seen m.setup.rekey =
    ap (λ (x : List Report). makes h2 x d.potential d.seen d.rekey) c.due-due.ensures.live ∙ ap (λ (x : Bool). makes h2 found.reports x d.seen d.rekey) c.due-due.ensures.potential
    ∙ ap (λ (x : Seen). makes h2 found.reports (list_any (λ x. x.potential) found.rows) x d.rekey) c.due-due.ensures.seen ∙ ap (λ (x : Rekey). makes h2 found.reports (list_any (λ x. x.potential) found.rows) seen x) rekey in
    let due : IsDue sak (makes h2 d.live.now d.potential d.seen d.rekey) = subst (λ (b : Bool). IsDue sak b) (sym same) (is-due m p found seen any sak comes is) in
    let past = ap (λ (x : List Report). keys_made (Some (made_roster m.mi x)) (made_by m.base m.mi h2 d.conf sak) h2) c.due-due.ensures.live ∙ past-keys m p found seen any sak d.conf comes is conf in
    let k3 = subst (λ (g : List Keying). KeysStandFor m.base m.mi false c.make.new.keys g) past (c.in_ok-installed.ensures.stands m.base m.mi h2 k2 due) in
    let inst = c.in_ok-installed.ensures.changes m.base m.mi h2 k2 due
    ∙ ap (λ (x : List Report). install_changes h2 (Some (made_roster m.mi x)) (made_by m.base m.mi h2 d.conf sak)) c.due-due.ensures.live ∙ past-installed m p found seen any sak d.conf comes is conf in
    let said = past-said m now found p seen any s comes in
    let frame = c.in_ok-sent.ensures.frame m.base m.mi h h3 s.keys k3 ∙ ap (option_map (frame_of now.setup)) said ∙ ap (λ (x : Setup). option_map (frame_of x) (says_at m seen any p)) s.setup in
    let shows = c.in_ok-sent.ensures.shown m.base m.mi h h3 s.keys k3 ∙ ap (option_map (λ a. shown_by found.rows found.server h3)) said ∙ ap (λ (x : Shown). option_map (λ a. x) (says_at m seen any p)) (past-shown m found p seen any comes) in
    let news = c.new_server.ensures ∙ ap (λ (x : Option Mi). cond (same_option same_mi x S) None (Some S)) c.server.ensures ∙ ap (λ (x : Option Mi). cond (same_option same_mi now.server x) None (Some x)) server_is in
    record {
      reaction = reacts m now found p seen any c.new_server.result c.in_ok-changes.changes c.in_ok-passed.passed c.in_ok-installed.installed c.in_ok-sent.sent s comes news c.in_ok-changes.ensures passed inst frame;
      shown = shows;
      server = server_is ∙ comes.server;
      keys = k3;
    }
