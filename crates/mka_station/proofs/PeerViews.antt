-- What is found for the next tick is what the next tick comes to.
use Rattle.std.proofs.Common.{◌≡◌, ◌∙◌, ℕ, Bool, cond, List, ◌∷◌, ◌++◌, map, slice_get, Option, None, is_some, IsTrue, refl, ap, sym}
use Rattle.lan_base.specs.declared.address.Mi.{Mi}
use Rattle.peer_lists.specs.Histories.{ticked as peers_ticked}
use Rattle.peer_lists.specs.Peers.{row_at}
use Rattle.peer_lists.specs.Table.{Table, StandsFor as PeersStandFor}
use Rattle.peer_lists.specs.Showing.{rows_shown, rows_shown_later}
use Rattle.peer_lists.proofs.Public.{later-stands}
use Rattle.server_election.specs.declared.candidate.Candidate.{Candidate}
use Rattle.server_election.specs.Election.{elected as elected_among}
use Rattle.sak_exchange.specs.declared.change.Change.{Change}
use Rattle.sak_exchange.specs.declared.report.Report.{Report}
use Rattle.sak_exchange.specs.Histories.{Keying, ticked as keys_ticked}
use Rattle.sak_exchange.specs.Beginning.{Beginning, leads}
use Rattle.sak_exchange.specs.Outcomes.{Effect, beginning}
use Rattle.mka_station.specs.Lives.{Setup, Member, Entry, ticked, own, candidate, peers_of, keys_of}
use Rattle.mka_station.specs.Views.{view, reports, is_server}
use Rattle.mka_station.specs.Tick.{ended, led, begun_past}
use Rattle.mka_station.specs.inside.Found.{Found, candidate_by, IsIn, IsAhead, IsFoundNext}
use Rattle.peer_lists.specs.declared.heard.Row.{Row}
use Rattle.mka_station.specs.inside.Rows.{live_rows, report_of, candidate_in, IsShown}
use Rattle.mka_station.proofs.RowsShown.{rows-show}
use Rattle.mka_station.proofs.Pasts.{peers-ticked, keys-ticked, keys-begun, view-keys, view-server, view-elected}

-- what a station leads with, given its elected server
abbrev pub led_by : Option Mi → Mi → List Keying → List Report → Option Beginning
led_by server mi h told = cond (is_server server mi) (leads h told) None

-- the keys of a tick at which this server is elected
abbrev pub ticked_with : Member → List Entry → Found → List Keying
ticked_with m p c = keys_ticked (is_some c.server) ∷ keys_of m p

pub comes : (m : Member) (p : List Entry) (c : Found) → ((at : ℕ) → slice_get c.rows at ≡ row_at (own m) (peers_ticked ∷ peers_of m p) at)
    → c.reports ≡ map report_of (live_rows c.rows) → c.server ≡ elected_among (candidate m) (map candidate_in (live_rows c.rows)) → IsFoundNext m p c
comes m p c rows told server =
    let q = ticked ∷ p in
    let shows : IsShown m (view m q) c.rows = rows-show m q (peers_ticked ∷ peers_of m p) c.rows (peers-ticked m p) rows in
    record {
      rows = rows;
      told = told ∙ shows.live_reports;
      server = server ∙ ap (elected_among (candidate m)) shows.live_candidates ∙ sym (view-elected m q);
    }

-- what is found in the rows that the peer lists will show
pub comes-in : (m : Member) (p : List Entry) (setup : Setup) (mi : Mi) (t : Table) (c : Found) → m.setup ≡ setup → m.mi ≡ mi → PeersStandFor (own m) t (peers_of m p)
    → IsIn (candidate_by setup mi) (rows_shown_later t) c → IsFoundNext m p c
comes-in m p setup mi t c setup_is mi_is stands found =
    comes m p c (λ at. ap (λ (rs : List Row). slice_get rs at) found.rows ∙ later-stands (own m) t (peers_of m p) stands at) found.reports
    (found.server ∙ ap (λ (x : Candidate). elected_among x (map candidate_in (live_rows c.rows))) (rw (setup_is, mi_is) refl))

-- what was ahead of a tick is there behind it
pub ahead-passed : (setup : Setup) (mi : Mi) (before after : Table) (c : Found) → IsAhead setup mi before c → rows_shown after ≡ rows_shown_later before
    → IsTrue c.ahead → IsIn (candidate_by setup mi) (rows_shown after) c
ahead-passed setup mi before after c ahead same is =
    let f = ahead.found is in
    record { rows = f.rows ∙ sym same; reports = f.reports; server = f.server }

pub keys-come : (m : Member) (p : List Entry) (c : Found) → IsFoundNext m p c → ticked_with m p c ≡ keys_of m (ticked ∷ p)
keys-come m p c f = ap (λ (o : Option Mi). keys_ticked (is_some o) ∷ keys_of m p) (f.server ∙ view-server m (ticked ∷ p)) ∙ sym (keys-ticked m p)

led-same : (m : Member) (p : List Entry) (c : Found) → IsFoundNext m p c → led_by c.server m.mi (ticked_with m p c) c.reports ≡ led m (view m (ticked ∷ p))
led-same m p c f =
    let q = ticked ∷ p in
    let v = view m q in
    ap (λ (o : Option Mi). led_by o m.mi (ticked_with m p c) c.reports) f.server ∙ ap (λ (r : List Report). led_by v.server m.mi (ticked_with m p c) r) f.told
    ∙ ap (λ (g : List Keying). led_by v.server m.mi g (reports v.live)) (keys-come m p c f ∙ sym (view-keys m q))

-- what a tick does to the keys at which this server is elected
abbrev pub passed_with : List Keying → Option Mi → Bool → List Report → Effect
passed_with h server serves told = beginning (keys_ticked (is_some server) ∷ h) (cond serves (leads (keys_ticked (is_some server) ∷ h) told) None)

pub passed-same : (h : List Keying) (server now : Option Mi) (serves is : Bool) (told said : List Report) → server ≡ now → serves ≡ is → told ≡ said → passed_with h server serves told ≡ passed_with h now is said
passed-same h server now serves is told said a b c = rw (a, b, c) refl

-- the keys after what begins
pub past-begun : (m : Member) (p : List Entry) (c : Found) → IsFoundNext m p c → (beginning (ticked_with m p c) (led_by c.server m.mi (ticked_with m p c) c.reports)).past ≡ keys_of m (begun_past m p)
past-begun m p c f =
    let v = view m (ticked ∷ p) in
    ap (λ (b : Option Beginning). (beginning (ticked_with m p c) b).past) (led-same m p c f) ∙ ap (λ (g : List Keying). (beginning g (led m v)).past) (keys-come m p c f) ∙ keys-begun m (led m v) (ticked ∷ p)

-- what ends and begins
pub changes-begun : (m : Member) (p : List Entry) (c : Found) → IsFoundNext m p c
    → ended (keys_of m p) c.server ++ (beginning (ticked_with m p c) (led_by c.server m.mi (ticked_with m p c) c.reports)).changes
    ≡ ended (view m p).keys (view m (ticked ∷ p)).server ++ (beginning (view m (ticked ∷ p)).keys (led m (view m (ticked ∷ p)))).changes
changes-begun m p c f =
    let v = view m (ticked ∷ p) in
    let ends : ended (keys_of m p) c.server ≡ ended (view m p).keys v.server = ap (ended (keys_of m p)) f.server ∙ ap (λ (g : List Keying). ended g v.server) (sym (view-keys m p)) in
    let begins : (beginning (ticked_with m p c) (led_by c.server m.mi (ticked_with m p c) c.reports)).changes ≡ (beginning v.keys (led m v)).changes =
    ap (λ (b : Option Beginning). (beginning (ticked_with m p c) b).changes) (led-same m p c f) ∙ ap (λ (g : List Keying). (beginning g (led m v)).changes) (keys-come m p c f ∙ sym (view-keys m (ticked ∷ p))) in
    ap (λ (xs : List Change). xs ++ (beginning (ticked_with m p c) (led_by c.server m.mi (ticked_with m p c) c.reports)).changes) ends ∙ ap (λ (xs : List Change). ended (view m p).keys v.server ++ xs) begins

-- the server by the rows as they stand
pub elected-now : (m : Member) (q : List Entry) (rows : List Row) (server : Option Mi) → ((at : ℕ) → slice_get rows at ≡ row_at (own m) (peers_of m q) at)
    → server ≡ elected_among (candidate m) (map candidate_in (live_rows rows)) → server ≡ (view m q).server
elected-now m q rows server each is =
    let shows : IsShown m (view m q) rows = rows-show m q (peers_of m q) rows refl each in
    is ∙ ap (elected_among (candidate m)) shows.live_candidates ∙ sym (view-elected m q)
