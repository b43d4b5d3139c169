-- What is kept of tickets, and the tickets made again of it.
use Rattle.std.proofs.Common.{◌≡◌, ℕ, zero, suc, ◌+◌, ◌≤◌, List, [], ◌∷◌, ◌++◌, drop, length, refl, sym, ◌∙◌, ap, arith}
use Rattle.std.specs.Prelude.{◌==◌, Bool, true, false, cond, Option, Some, None, slice_get}
use Rattle.std.specs.List.{cons_option, filter_map}
use Rattle.std.specs.Option.{option_map, option_to_list}
use Rattle.std.proofs.lemmas.List.{drop_at}
use Rattle.std.proofs.lemmas.Option.{same_Some}
use Rattle.jr_model.specs.declared.blocks.Piece.{Piece}
use Rattle.jr_model.specs.declared.contents.Expected.{Expected}
use Rattle.jr_model.specs.declared.contents.Expected.TheVariants as expected
use Rattle.jr_model.specs.declared.contents.Method.{Method}
use Rattle.jr_model.specs.declared.contents.VerifyKind.{VerifyKind}
use Rattle.jr_model.specs.declared.contents.VerifyKind.TheVariants as verify
use Rattle.jr_model.specs.declared.events.Event.{Event}
use Rattle.jr_model.specs.declared.events.Started.{Started}
use Rattle.jr_model.specs.declared.events.WriteId.{WriteId}
use Rattle.jr_model.specs.declared.tickets.Ticket.{Ticket}
use Rattle.jr_model.specs.declared.tickets.TicketKind.{TicketKind}
use Rattle.jr_model.specs.declared.tickets.TicketKind.TheVariants as ticket
use Rattle.jr_model.specs.Content.{block_version, data_area, expected_headers, expected_of, header_back, header_front}
use Rattle.jr_model.specs.History.{started}
use Rattle.jr_model.specs.Plan.{Plan, clone_of}
use Rattle.jr_desk_tickets.specs.declared.launches.Launch.{Launch}
use Rattle.jr_desk_tickets.specs.Handing.{check_again, expected_again, header_expected, header_in, header_wanted, headers_again, launch_of, launched_piece, launches_from, ticket_again}
use Rattle.jr_desk_tickets.specs.Kept.{tickets_of}
use Rattle.jr_desk_tickets.specs.Tickets.{expected_by, method_of, seed_of, ticket_of}
use Rattle.jr_desk_tickets.proofs.HandingLists.{got_numbered}

-- a ticket more

counted : {X : Type 0} (o : Option X) (xs : List X) → length (option_to_list o) + length xs ≡ length (cons_option o xs)
counted None xs = omega arith
counted (Some x) xs = omega arith

-- what is kept of it stands at the end, behind the headers of all before it
pub launches_more : (n : ℕ) (tickets : List Ticket) (t : Ticket)
    → launches_from n (tickets ++ t ∷ [])
    ≡ launches_from n tickets ++ launch_of (n + length (filter_map header_wanted tickets)) t ∷ []
launches_more n [] t =
    let same : n ≡ n + 0 = omega arith in
    ap (λ (k : ℕ). launch_of k t ∷ []) same
launches_more n (x ∷ tickets) t =
    let own = length (option_to_list (header_wanted x)) in
    let count = length (filter_map header_wanted tickets) in
    let same : n + own + count ≡ n + length (cons_option (header_wanted x) (filter_map header_wanted tickets)) =
    omega (arith, counted (header_wanted x) (filter_map header_wanted tickets)) in
    ap (λ (ls : List Launch). launch_of n x ∷ ls) (launches_more (n + own) tickets t)
    ∙ ap (λ (k : ℕ). launch_of n x ∷ (launches_from (n + own) tickets ++ launch_of k t ∷ [])) same

pub length-launches : (n : ℕ) (tickets : List Ticket) → length (launches_from n tickets) ≡ length tickets
length-launches n [] = refl
length-launches n (t ∷ tickets) = ap suc (length-launches (n + length (option_to_list (header_wanted t))) tickets)

at_most_one : {X : Type 0} (o : Option X) (xs : List X) → length (cons_option o xs) ≤ suc (length xs)
at_most_one None xs = omega arith
at_most_one (Some x) xs = omega arith

-- no more headers are kept than there are tickets
pub headers_few : (tickets : List Ticket) → length (filter_map header_wanted tickets) ≤ length tickets
headers_few [] = omega arith
headers_few (t ∷ tickets) =
    omega (arith, headers_few tickets, at_most_one (header_wanted t) (filter_map header_wanted tickets))

-- what is found under a number

-- what a ticket says is read from what is kept of it
pub kept_at : {Y : Type 0} (f : Launch → Y) (g : Ticket → Y) → ((n : ℕ) (t : Ticket) → f (launch_of n t) ≡ g t)
    → (n : ℕ) (tickets : List Ticket) (k : ℕ)
    → option_map f (slice_get (launches_from n tickets) k) ≡ option_map g (slice_get tickets k)
kept_at f g same n [] k = refl
kept_at f g same n (t ∷ tickets) zero = ap Some (same n t)
kept_at f g same n (t ∷ tickets) (suc k) = kept_at f g same (n + length (option_to_list (header_wanted t))) tickets k

-- what is kept of a ticket, and its header behind those that were kept before
pub record IsLaunched (n : ℕ) (tickets : List Ticket) (k : ℕ) (t : Ticket) : Type 0 where
  pub before : ℕ
  pub at : slice_get (launches_from n tickets) k ≡ Some (launch_of (n + before) t)
  pub header : (h : List ℕ) → header_wanted t ≡ Some h → slice_get (filter_map header_wanted tickets) before ≡ Some h

first_header : (o : Option (List ℕ)) (hs : List (List ℕ)) (h : List ℕ) → o ≡ Some h → slice_get (cons_option o hs) 0 ≡ Some h
first_header None hs h is = cc
first_header (Some x) hs h is = is

later_header : (o : Option (List ℕ)) (hs : List (List ℕ)) (j : ℕ)
    → slice_get (cons_option o hs) (length (option_to_list o) + j) ≡ slice_get hs j
later_header None hs j =
    let same : 0 + j ≡ j = omega arith in
    ap (slice_get hs) same
later_header (Some x) hs j =
    let same : 1 + j ≡ suc j = omega arith in
    ap (slice_get (x ∷ hs)) same

pub launched : (n : ℕ) (tickets : List Ticket) (k : ℕ) (t : Ticket) → slice_get tickets k ≡ Some t → IsLaunched n tickets k t
launched n [] k t at = cc
launched n (x ∷ tickets) zero t at =
    let same : n ≡ n + 0 = omega arith in
    let here : x ≡ t = same_Some x t at in
    record {
      before = 0;
      at =
          ap {B = Option Launch} (λ (y : Ticket). Some (launch_of n y)) here
          ∙ ap {B = Option Launch} (λ (m : ℕ). Some (launch_of m t)) same;
      header = λ (h : List ℕ) (wants : header_wanted t ≡ Some h).
          first_header (header_wanted x) (filter_map header_wanted tickets) h (ap header_wanted here ∙ wants);
    }
launched n (x ∷ tickets) (suc k) t at =
    let own = length (option_to_list (header_wanted x)) in
    let rest = launched (n + own) tickets k t at in
    let same : n + own + rest.before ≡ n + (own + rest.before) = omega arith in
    record {
      before = own + rest.before;
      at = rest.at ∙ ap {B = Option Launch} (λ (m : ℕ). Some (launch_of m t)) same;
      header = λ (h : List ℕ) (wants : header_wanted t ≡ Some h).
          later_header (header_wanted x) (filter_map header_wanted tickets) rest.before ∙ rest.header h wants;
    }

-- the ticket made again

length-front : (kind : VerifyKind) (write : WriteId) (piece : Piece) → length (header_front block_version kind write piece) ≡ 32
unfolding header_front
length-front kind write piece = refl

headers_same : (one : Bool) (front back : List ℕ) (seed : ℕ) (found : Option (List ℕ)) → length front ≡ 32
    → ((h : List ℕ) → header_in (cond one (expected.Header (front ++ back)) (expected.Seed seed)) ≡ Some h → found ≡ Some h)
    → cond one (header_expected front found) (expected.Seed seed) ≡ cond one (expected.Header (front ++ back)) (expected.Seed seed)
headers_same true front back seed found whole has =
    ap (header_expected front) (has (drop 32 (front ++ back)) refl)
    ∙ ap (λ (half : List ℕ). expected.Header (front ++ half)) (drop_at front back 32 whole)
headers_same false front back seed found whole has = refl

digest_same : (method : Method) (launch : Launch) (found : Option (List ℕ))
    → ((h : List ℕ) → header_in (expected_headers method launch.write (launched_piece launch) launch.seed) ≡ Some h → found ≡ Some h)
    → headers_again method launch found ≡ expected_headers method launch.write (launched_piece launch) launch.seed
digest_same method launch found has =
    headers_same (method.interval == 0) (header_front block_version method.kind launch.write (launched_piece launch))
    (header_back method.kind (data_area method (launched_piece launch) launch.seed)) launch.seed found
    (length-front method.kind launch.write (launched_piece launch)) has

check_same : (kind : VerifyKind) (method : Method) (launch : Launch) (found : Option (List ℕ))
    → ((h : List ℕ) → header_in (expected_of kind method launch.write (launched_piece launch) launch.seed) ≡ Some h → found ≡ Some h)
    → check_again kind method launch found ≡ expected_of kind method launch.write (launched_piece launch) launch.seed
check_same verify.Plain method launch found has = refl
check_same verify.Pattern method launch found has = refl
check_same verify.Md5 method launch found has = digest_same method launch found has
check_same verify.Sha1 method launch found has = digest_same method launch found has
check_same verify.Sha256 method launch found has = digest_same method launch found has

-- the I/O of which this is kept
abbrev io_of : TicketKind → Launch → Started
io_of kind launch = record { worker = launch.worker; kind = kind; write = launch.write; piece = launched_piece launch }

expected_same : (kind own : TicketKind) (method : Method) (launch : Launch) (found : Option (List ℕ))
    → ((h : List ℕ) → header_in (expected_by kind method (io_of own launch) launch.seed) ≡ Some h → found ≡ Some h)
    → expected_again kind method launch found ≡ expected_by kind method (io_of own launch) launch.seed
expected_same ticket.Read own method launch found has = refl
expected_same ticket.Write own method launch found has = refl
expected_same ticket.ReadCheck own method launch found has = refl
expected_same ticket.Probe own method launch found has = check_same method.kind method launch found has

made_again : (plan : Plan) (headers : List (List ℕ)) (id m : ℕ) (io : Started)
    → ((h : List ℕ) → header_wanted (ticket_of plan (id, io)) ≡ Some h → slice_get headers m ≡ Some h)
    → ticket_again plan headers id (launch_of m (ticket_of plan (id, io))) ≡ ticket_of plan (id, io)
made_again plan headers id m io has =
    let method = method_of (clone_of plan io.write.clone) in
    let seed = seed_of plan io in
    ap (λ (e : Expected). record {
      id = id;
      worker = io.worker;
      kind = io.kind;
      write = io.write;
      piece = io.piece;
      seed = seed;
      method = method;
      expected = e;
    })
    (expected_same io.kind io.kind method (launch_of m (ticket_of plan (id, io))) (slice_get headers m) has)

found_again : (plan : Plan) (history : List Event) (id : ℕ) (t : Ticket) → slice_get (tickets_of plan history) id ≡ Some t
    → option_map (ticket_again plan (filter_map header_wanted (tickets_of plan history)) id)
    (slice_get (launches_from 0 (tickets_of plan history)) id)
    ≡ Some t
found_again plan history id t at =
    let tickets = tickets_of plan history in
    let headers = filter_map header_wanted tickets in
    let kept = launched 0 tickets id t at in
    let got = got_numbered (ticket_of plan) 0 (started history) id t at in
    let io = got.0 in
    let number : 0 + id ≡ id = omega arith in
    let place : 0 + kept.before ≡ kept.before = omega arith in
    let made : ticket_of plan (id, io) ≡ t = sym (ap (λ (i : ℕ). ticket_of plan (i, io)) number) ∙ got.2 in
    ap (option_map (ticket_again plan headers id)) kept.at
    ∙ ap {B = Option Ticket} (λ (m : ℕ). Some (ticket_again plan headers id (launch_of m t))) place
    ∙ ap {B = Option Ticket} Some
    (ap (λ (x : Ticket). ticket_again plan headers id (launch_of kept.before x)) (sym made)
    ∙ made_again plan headers id kept.before io
    (λ (h : List ℕ) (wants : header_wanted (ticket_of plan (id, io)) ≡ Some h).
    kept.header h (ap header_wanted (sym made) ∙ wants))
    ∙ made)

nothing_mapped : {X Y : Type 0} (f : X → Y) (o : Option X) → option_map f o ≡ None → o ≡ None
nothing_mapped f None h = refl
nothing_mapped f (Some x) h = cc

-- what is kept under a number makes its ticket again
pub tickets_again : (plan : Plan) (history : List Event) (id : ℕ)
    → option_map (ticket_again plan (filter_map header_wanted (tickets_of plan history)) id)
    (slice_get (launches_from 0 (tickets_of plan history)) id)
    ≡ slice_get (tickets_of plan history) id
tickets_again plan history id = by (slice_get (tickets_of plan history) id) refl
  where
    again : Launch → Ticket
    again = ticket_again plan (filter_map header_wanted (tickets_of plan history)) id

    by : (o : Option Ticket) → slice_get (tickets_of plan history) id ≡ o
        → option_map again (slice_get (launches_from 0 (tickets_of plan history)) id) ≡ o
    by None none =
        let read = kept_at (λ (launch : Launch). launch.seed) (λ (t : Ticket). t.seed) (λ n t. refl) 0 (tickets_of plan history) id in
        ap (option_map again)
        (nothing_mapped (λ (launch : Launch). launch.seed) (slice_get (launches_from 0 (tickets_of plan history)) id)
        (read ∙ ap (option_map (λ (t : Ticket). t.seed)) none))
    by (Some t) at = found_again plan history id t at
