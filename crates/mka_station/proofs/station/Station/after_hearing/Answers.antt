use Rattle.std.proofs.Common.{◌≡◌, ◌∙◌, ◌∷◌, ℕ, false, cond, None, Some, List, Option, ap, sym, refl, subst}
use Rattle.lan_base.specs.declared.address.Mi.{Mi}
use Rattle.lan_base.specs.Identifiers.{same_mi}
use Rattle.sak_exchange.specs.Histories.{Keying}
use Rattle.sak_exchange.specs.Beginning.{Beginning}
use Rattle.sak_exchange.specs.Outcomes.{beginning}
use Rattle.sak_exchange.specs.Standing.{State as Keys, StandsFor as KeysStandFor}
use Rattle.mka_station.specs.declared.verdict.Verdict.{Verdict}
use Rattle.mka_station.specs.Lives.{Setup, heard, own, peers_of, keys_of}
use Rattle.mka_station.specs.Announcing.{same_option}
use Rattle.mka_station.specs.Hearing.{take_changes, key_taken, offer_at, taken_past}
use Rattle.mka_station.specs.inside.Turns.{offered_by, answered, keys_with}
use Rattle.mka_station.proofs.Hears.{offer-is, answer-is, taken-keys, follow-is, heard-all, heard-reacts, taken-installs}
use Rattle.mka_station.proofs.station.Station.after_hearing.Goals as goal

pub returns : goal.returns
returns c = λ m p s p2 out server_is.
    let now = c.args.self.now in
    let a = c.args.announcement.now in
    let h1 = peers_of m (heard a ∷ p) in
    let hk = keys_of m p in
    let h2 = keys_of m (taken_past m a p) in
    let o = c.args.outcome in
    let server = c.args.server in
    let offer = c.offered-offer.result in
    let taken = c.in_ok-taken.taken in
    let followed = c.in_ok-followed.followed in
    let k0 = subst (λ (x : Keys). KeysStandFor m.base m.mi false x hk) (sym (c.in_ok-keys.ensures ∙ c.keys.ensures)) s.keys in
    let off : offer ≡ offer_at m a p = c.offered-offer.ensures (own m) h1 p2 ∙ ap (λ (i : Mi). offered_by o h1 i server a) (c.mi.ensures ∙ s.mi) ∙ offer-is m a p h1 server o refl server_is out in
    let kek = c.kek.ensures ∙ ap (λ (x : Setup). x.kek) s.setup in
    let first = c.in_ok-taken.ensures.changes m.base m.mi hk k0 ∙ ap (λ (k : List ℕ). take_changes hk offer (answered m.base k hk offer)) kek in
    let path = ap (λ (k : List ℕ). keys_with (key_taken (answered m.base k hk offer)) hk) kek ∙ ap (λ r. keys_with (key_taken r) hk) (answer-is m a p offer off) ∙ taken-keys m a p in
    let k1 = subst (λ (h : List Keying). KeysStandFor m.base m.mi false c.take.new.keys h) path (c.in_ok-taken.ensures.stands m.base m.mi hk k0) in
    let second = c.in_ok-followed.ensures.changes m.base m.mi h2 k1 in
    let k2 = subst (λ (h : List Keying). KeysStandFor m.base m.mi false c.follow.new.keys h) (ap (λ (b : Option Beginning). (beginning h2 b).past) (follow-is m a p server o server_is out) ∙ heard-all m a p) (c.in_ok-followed.ensures.stands m.base m.mi h2 k1) in
    let news = c.new_server.ensures ∙ ap (λ (x : Option Mi). cond (same_option same_mi x server) None (Some server)) c.server.ensures in
    record {
      reaction = ap (λ (v : Verdict). record { heard = Some v; server = c.new_server.result; changes = c.in_ok-changes.changes; sent = None }) c.verdict_of.ensures
          ∙ heard-reacts m now a p o server offer c.new_server.result taken followed c.in_ok-changes.changes s out server_is off news first second c.in_ok-changes.ensures;
      installs = c.one_installs-installs.ensures ∙ taken-installs m a p offer taken off first;
      server = server_is;
      keys = k2;
    }
