-- How a snapshot finds its end, and what it holds then.
use Rattle.std.proofs.Common.{◌≡◌, inl, ℕ, ◌+◌, ◌-◌, ◌≤◌, max, Bool, true, false, List, [], ◌++◌, length, take, drop, refl, sym, ◌∙◌, ap, subst, arith, Result, Ok, Err, IfOk}
use Rattle.tb_file_journal.specs.declared.faults.JournalFault.{JournalFault}
use Rattle.tb_file_journal.specs.declared.hops.Hop.{Hop}
use Rattle.tb_file_journal.specs.declared.hops.Hop.TheVariants as hops
use Rattle.tb_file_journal.specs.declared.snapshots.Found.{Found}
use Rattle.tb_file_journal.specs.Device.{ReadsAt}
use Rattle.tb_file_journal.specs.Contents.{Ends, front, contents}
use Rattle.tb_file_journal.specs.Scans.{BeginsWith}
use Rattle.tb_file_journal.specs.Growing.{Later, Grown}
use Rattle.tb_file_journal.specs.Snapshots.{Snapped, behind_blocks, BlocksLeadTo, ShowsBlocks, ShowsAll, ShowsOf, HoldsBytes, TakesSnapshot, Refreshes}
use Rattle.tb_file_journal.specs.private.Hops.{LeadsFrom, HasPiece, IsEndFound, IsFoundOn, HopsOn, HopsSized, WasClosed, FindsLatch, FindsEnd, Grows, HopsFrom, Finds, FindsMore, ReadsBlocks}
use Rattle.tb_file_journal.proofs.Growths.{final_later, later_same, later_then, leads_within, leads_kept, leads_later}
use Rattle.tb_file_journal.proofs.Showing.{room, shown_length, shown_contents, shown_size, closed_before, shows_still, shows_more, held_grown, reads_ahead}

-- the blocks of one piece

pub hops_on : (mid grows : List ℕ → Type 0) (bytes : List ℕ) (at count len : ℕ) (piece : List ℕ) (hop : Hop) → 11 ≤ length piece → BlocksLeadTo at bytes
    → (first : Grown mid bytes (λ later. ReadsAt count at later piece)) → (second : Grown grows first.later (λ later. len ≡ length later))
    → ((file later : List ℕ) → HasPiece at file later (take count piece) len → BlocksLeadTo at file → LeadsFrom hop file later)
    → HopsOn grows bytes hop
hops_on mid grows bytes at count len piece hop some leads first second follows = record {
  met = first.later;
  after = first.after;
  later = second.later;
  since = second.after;
  now = second.now;
  leads = follows first.later second.later
      (record { ahead = reads_ahead count at first.later piece some first.has; after = second.after; counts = second.has })
      (leads_later at bytes first.later leads first.after);
}

-- with the number of bytes before that

pub hops_sized : (mid grows : List ℕ → Type 0) (bytes : List ℕ) (at len : ℕ) (hop : Hop) → BlocksLeadTo at bytes
    → (first : Grown mid bytes (λ later. len ≡ length later)) → HopsOn grows first.later hop
    → HopsOn grows bytes hop × (hop ≡ hops.Closed at → WasClosed grows at len bytes)
hops_sized mid grows bytes at len hop leads first second = (
  record {
    met = second.met;
    after = later_then bytes first.later second.met first.after second.after;
    later = second.later;
    since = second.since;
    now = second.now;
    leads = second.leads;
  },
  closed,
)
  where
    closed : hop ≡ hops.Closed at → WasClosed grows at len bytes
    closed is =
        let here = leads_later at bytes first.later leads first.after in
        let ends : LeadsFrom (hops.Closed at) second.met second.later = subst (λ (h : Hop). LeadsFrom h second.met second.later) is second.leads in
        record {
          met = first.later;
          after = first.after;
          sized = first.has;
          leads = here;
          closed = closed_before at first.later second.met here second.after ends.1;
          later = second.later;
          since = later_then first.later second.met second.later second.after second.since;
          now = second.now;
        }

pub grown_by : {mid now : List ℕ → Type 0} {bytes : List ℕ} {P Q R : List ℕ → Type 0} → (first : Grown mid bytes P) → (second : Grown now first.later Q) → R second.later → Grown now bytes R
grown_by {mid} {now} {bytes} {P} {Q} {R} first second has = record { later = second.later; after = later_then bytes first.later second.later first.after second.after; now = second.now; has = has }

pub grown_as : {now : List ℕ → Type 0} {bytes : List ℕ} {P R : List ℕ → Type 0} → (grown : Grown now bytes P) → R grown.later → Grown now bytes R
grown_as {now} {bytes} {P} {R} grown has = record { later = grown.later; after = grown.after; now = grown.now; has = has }

-- where the blocks lead then

module _ (grows : List ℕ → Type 0) (a b : List ℕ) (before : Later a b) where
  pub on_further : (next : ℕ) → HopsOn grows b (hops.Further next) → Grown grows a (BlocksLeadTo next)
  on_further next hop = record {
    later = hop.later;
    after = later_then a b hop.later before (later_then b hop.met hop.later hop.after hop.since);
    now = hop.now;
    has = hop.leads;
  }

  pub on_onward : (next : ℕ) → HopsOn grows b (hops.Closed next) → Grown grows a (BlocksLeadTo next)
  on_onward next hop = record {
    later = hop.later;
    after = later_then a b hop.later before (later_then b hop.met hop.later hop.after hop.since);
    now = hop.now;
    has = leads_later next hop.met hop.later hop.leads.0 hop.since;
  }

  pub was_closed : (end len : ℕ) → WasClosed grows end len b → IsEndFound grows a (record { end = end; len = len; closed = true })
  was_closed end len was = record {
    met = was.met;
    after = later_then a b was.met before was.after;
    shown = take end was.met ++ behind_blocks (len - (end + 4));
    shows = record { leads = was.leads; closed = was.closed; sized = was.sized; is = refl };
    later = was.later;
    since = was.since;
    now = was.now;
  }

  pub on_broken : HopsOn grows b hops.Broken → IsEndFound grows a (record { end = 0; len = 0; closed = false })
  on_broken hop = record {
    met = hop.met;
    after = later_then a b hop.met before hop.after;
    shown = hop.met;
    shows = record { final = hop.leads; is = refl };
    later = hop.later;
    since = hop.since;
    now = hop.now;
  }

  pub found_since : (found : Found) → IsEndFound grows b found → IsEndFound grows a found
  found_since found is = record {
    met = is.met;
    after = later_then a b is.met before is.after;
    shown = is.shown;
    shows = is.shows;
    later = is.later;
    since = is.since;
    now = is.now;
  }

-- from the first bytes on

pub starts_leads : (file : List ℕ) → BeginsWith [] file → BlocksLeadTo 8 file
starts_leads file begins = inl (record { records = []; begins = begins; is = refl })

-- from a latch on that was closed

pub tells_end : (mid now : List ℕ → Type 0) (end len : ℕ) (bytes : List ℕ) (closed : Bool) → (first : Grown mid bytes (λ later. len ≡ length later)) → (second : Grown now first.later (λ later. FindsLatch end later closed))
    → FindsEnd now end bytes (len, closed)
unfolding grown_by
tells_end mid now end len bytes closed first second = record {
  sized = grown_by first second tt;
  is = second.has;
  before = first.later;
  after = first.after;
  since = second.after;
  long = first.has;
}

module _ (end len : ℕ) (bytes met shown : List ℕ) (since : Later met bytes) (shows : ShowsBlocks end len met shown) where
  pub more_still : (grows : List ℕ → Type 0) (size : ℕ) (closed : Bool) → closed ≡ true → FindsEnd grows end bytes (size, closed) → IsFoundOn grows bytes shown (record { end = end; len = size; closed = true })
  more_still grows size closed is told =
      let at_last : front (drop end told.sized.later) ≡ Ends = subst (FindsLatch end told.sized.later) is told.is in
      let mid = told.before in
      let then = later_then met bytes mid since told.after in
      let still = shows_still end len met shown mid shows then (closed_before end mid told.sized.later (leads_later end met mid shows.leads then) told.since at_last) in
      record {
        is = record {
          met = mid;
          after = told.after;
          shown = still.0;
          shows = subst (λ (n : ℕ). ShowsBlocks end n mid still.0) (sym told.long) still.1;
          later = told.sized.later;
          since = told.since;
          now = told.sized.now;
        };
        goes_on = still.2;
      }

  pub more_leads : {grows : List ℕ → Type 0} {told : ℕ × Bool} → (first : FindsEnd grows end bytes told) → BlocksLeadTo end first.sized.later
  more_leads first = leads_later end met first.sized.later shows.leads (later_then met bytes first.sized.later since first.sized.after)

  pub more_found : (mid grows : List ℕ → Type 0) (size : ℕ) (closed : Bool) → closed ≡ false → (first : FindsEnd mid end bytes (size, closed)) → (found : Found) → IsEndFound grows first.sized.later found → IsFoundOn grows bytes shown found
  unfolding found_since
  more_found mid grows size closed is first found more = record {
    is = found_since grows bytes first.sized.later first.sized.after found more;
    goes_on = shows_more end len met shown first.sized.later shows (later_then met bytes first.sized.later since first.sized.after)
        (subst (FindsLatch end first.sized.later) is first.is)
        found.closed found.end found.len more.met more.shown more.after more.shows;
  }

-- what a snapshot holds

pub takes_found : {G : Type 0} (grows : G → List ℕ → Type 0) (bytes : List ℕ) (now : G) (found : Found) → IsEndFound (grows now) bytes found → TakesSnapshot grows bytes (record { file = now; end = found.end; len = found.len; closed = found.closed })
takes_found grows bytes now found is = record {
  later = is.met;
  after = is.after;
  shown = is.shown;
  held = record { file = is.later; now = is.now; shows = record { met = is.met; since = is.since; shows = is.shows } };
  same = shown_contents found.closed found.end found.len is.met is.shown is.shows;
  long = shown_size found.closed found.end found.len is.met is.shown is.shows;
}

pub refreshes_found : {G : Type 0} (grows : G → List ℕ → Type 0) (bytes shown : List ℕ) (now : G) (found : Found) → IsFoundOn (grows now) bytes shown found → Refreshes grows bytes shown (record { file = now; end = found.end; len = found.len; closed = found.closed })
unfolding takes_found
refreshes_found grows bytes shown now found goes = record { takes = takes_found grows bytes now found goes.is; goes_on = goes.goes_on }

blocks_of : (closed : Bool) (end len : ℕ) (met shown : List ℕ) → closed ≡ true → ShowsOf closed end len met shown → ShowsBlocks end len met shown
blocks_of closed end len met shown is shows = subst (λ (b : Bool). ShowsOf b end len met shown) is shows

all_of : (closed : Bool) (end len : ℕ) (met shown : List ℕ) → closed ≡ false → ShowsOf closed end len met shown → ShowsAll met shown
all_of closed end len met shown is shows = subst (λ (b : Bool). ShowsOf b end len met shown) is shows

module _ {G : Type 0} (grows : G → List ℕ → Type 0) (old : Snapped G) (shown : List ℕ) (held : HoldsBytes grows old shown) where
  pub held_blocks : old.closed ≡ true → ShowsBlocks old.end old.len held.shows.met shown
  held_blocks is = blocks_of old.closed old.end old.len held.shows.met shown is held.shows.shows

  held_all : old.closed ≡ false → ShowsAll held.shows.met shown
  held_all is = all_of old.closed old.end old.len held.shows.met shown is held.shows.shows

  whole_later : old.closed ≡ false → (later : List ℕ) → Later held.file later → later ≡ shown
  whole_later is later after =
      let all = held_all is in
      final_later held.shows.met later all.final (later_then held.shows.met held.file later held.shows.since after) ∙ sym all.is

  pub refreshes_whole : old.closed ≡ false → Refreshes grows held.file shown old
  refreshes_whole is = record {
    takes = record {
      later = held.file;
      after = later_same held.file;
      shown = shown;
      held = held;
      same = ap contents (sym (whole_later is held.file (later_same held.file)));
      long = ap length (sym (whole_later is held.file (later_same held.file)));
    };
    goes_on = later_same shown;
  }

  -- its reads

  module _ (now : List ℕ → Type 0) (result : Result ℕ JournalFault) (at : ℕ) (into : List ℕ) where
    pub reads_whole : old.closed ≡ false → Grown now held.file (λ later. IfOk result (λ count. ReadsAt count at later into)) → IfOk result (λ count. ReadsAt count at shown into)
    reads_whole is grown = subst (λ (file : List ℕ). IfOk result (λ count. ReadsAt count at file into)) (whole_later is grown.later grown.after) grown.has

    pub reads_blocks : old.closed ≡ true → Grown now held.file (λ later. old.end ≤ length later → IfOk result (λ count. ReadsAt count at (take old.end later ++ behind_blocks (old.len - (old.end + 4))) into)) → IfOk result (λ count. ReadsAt count at shown into)
    reads_blocks is grown =
        let blocks = held_blocks is in
        let after = later_then held.shows.met held.file grown.later held.shows.since grown.after in
        let within = leads_within old.end grown.later (leads_later old.end held.shows.met grown.later blocks.leads after) in
        let same : take old.end grown.later ++ behind_blocks (old.len - (old.end + 4)) ≡ shown = ap (λ (l : List ℕ). l ++ behind_blocks (old.len - (old.end + 4))) (leads_kept old.end held.shows.met grown.later blocks.leads after) ∙ sym blocks.is in
        subst (λ (file : List ℕ). IfOk result (λ count. ReadsAt count at file into)) same (grown.has within)

  pub len_blocks : old.closed ≡ true → max old.len (old.end + 4) ≡ length shown
  len_blocks is =
      let blocks = held_blocks is in
      omega (arith, shown_length old.end old.len held.shows.met shown blocks, blocks.sized, room old.end old.len held.shows.met shown blocks)

  pub len_whole : old.closed ≡ false → (now : List ℕ → Type 0) (result : Result ℕ JournalFault) → Grown now held.file (λ later. IfOk result (λ len. len ≡ length later)) → IfOk result (λ len. len ≡ length shown)
  len_whole is now result grown = subst (λ (file : List ℕ). IfOk result (λ len. len ≡ length file)) (whole_later is grown.later grown.after) grown.has

-- how far a file was searched

pub record IsSought (before now : List ℕ → Type 0) (from end : ℕ) (piece : List ℕ) : Type 0 where
  pub some : 11 ≤ length piece
  pub leads : (bytes : List ℕ) → before bytes → BlocksLeadTo from bytes → Grown now bytes (BlocksLeadTo end)
  pub same : (bytes : List ℕ) → before bytes → Grown now bytes (λ later. Unit {0})

module _ (before mid now : List ℕ → Type 0) (from end : ℕ) (piece : List ℕ) (sought : IsSought before mid from end piece) where
  pub sought_same : Grows mid now → Grows before now
  sought_same grows bytes is =
      let first = sought.same bytes is in
      grown_by first (grows first.later first.now) tt

  module _ (len : ℕ) (hop : Hop) (hops_from : HopsSized mid now end (Ok (len, hop))) where
    leads_as : {other : Hop} → hop ≡ other → HopsFrom mid now end (Ok other)
    leads_as {other} is bytes has leads = subst (HopsOn now bytes) is (hops_from bytes has leads).0

    pub sought_next : (next : ℕ) (read : List ℕ) → hop ≡ hops.Further next → 11 ≤ length read → Grows mid now → IsSought before now from next read
    sought_next next read is some grows = record {
      some = some;
      leads = λ bytes has leads.
          let first = sought.leads bytes has leads in
          on_further now bytes first.later first.after next (leads_as is first.later first.now first.has);
      same = sought_same grows;
    }

    pub sought_onward : (next : ℕ) (read : List ℕ) → hop ≡ hops.Closed next → 11 ≤ length read → Grows mid now → IsSought before now from next read
    sought_onward next read is some grows = record {
      some = some;
      leads = λ bytes has leads.
          let first = sought.leads bytes has leads in
          on_onward now bytes first.later first.after next (leads_as is first.later first.now first.has);
      same = sought_same grows;
    }

    pub sought_closed : hop ≡ hops.Closed end → Finds before now from (Ok (record { end = end; len = len; closed = true }))
    sought_closed is bytes has leads =
        let first = sought.leads bytes has leads in
        was_closed now bytes first.later first.after end len ((hops_from first.later first.now first.has).1 is)

    pub sought_broken : hop ≡ hops.Broken → Finds before now from (Ok (record { end = 0; len = 0; closed = false }))
    sought_broken is bytes has leads =
        let first = sought.leads bytes has leads in
        on_broken now bytes first.later first.after (leads_as is first.later first.now first.has)

-- on results

pub all_since : (grows : List ℕ → Type 0) (a b : List ℕ) (before : Later a b) (result : Result Found JournalFault) → IfOk result (IsEndFound grows b) → IfOk result (IsEndFound grows a)
all_since grows a b before (Ok found) is = found_since grows a b before found is
all_since grows a b before (Err fault) is = tt

pub all_more : (end len : ℕ) (bytes met shown : List ℕ) (since : Later met bytes) (shows : ShowsBlocks end len met shown) (mid grows : List ℕ → Type 0) (size : ℕ) (closed : Bool) → closed ≡ false
    → (first : FindsEnd mid end bytes (size, closed)) → (result : Result Found JournalFault) → IfOk result (IsEndFound grows first.sized.later) → IfOk result (IsFoundOn grows bytes shown)
all_more end len bytes met shown since shows mid grows size closed is first (Ok found) more = more_found end len bytes met shown since shows mid grows size closed is first found more
all_more end len bytes met shown since shows mid grows size closed is first (Err fault) more = tt

-- on snapshots, by the value that a call sees

module _ {G : Type 0} {grows : G → List ℕ → Type 0} {shown : List ℕ} {view old : Snapped G} (is : view ≡ old) (held : HoldsBytes grows old shown) where
  pub held_as : HoldsBytes grows view shown
  held_as = subst (λ (s : Snapped G). HoldsBytes grows s shown) (sym is) held

  now_in : grows view.file held.file
  now_in = subst (λ (s : Snapped G). grows s.file held.file) (sym is) held.now

  pub stays_held : (now : G) → Grows (grows view.file) (grows now) → HoldsBytes grows (record { file = now; end = view.end; len = view.len; closed = view.closed }) shown
  stays_held now call = subst (λ (s : Snapped G). HoldsBytes grows (record { file = now; end = s.end; len = s.len; closed = s.closed }) shown) (sym is) (held_grown grows old now shown held (call held.file now_in))

  pub refreshes_kept : view.closed ≡ false → Refreshes grows held.file shown view
  refreshes_kept final = subst (λ (s : Snapped G). Refreshes grows held.file shown s) (sym is) (refreshes_whole grows old shown held (subst (λ (s : Snapped G). s.closed ≡ false) is final))

  pub refreshes_more : view.closed ≡ true → (now : G) (found : Found) → FindsMore (grows view.file) (grows now) view.end (Ok found) → Refreshes grows held.file shown (record { file = now; end = found.end; len = found.len; closed = found.closed })
  refreshes_more met now found more =
      refreshes_found grows held.file shown now found
      (more view.len held.file shown held.shows.met now_in held.shows.since
      (subst (λ (s : Snapped G). ShowsBlocks s.end s.len held.shows.met shown) (sym is) (held_blocks grows old shown held (subst (λ (s : Snapped G). s.closed ≡ true) is met))))

  pub len_of_blocks : view.closed ≡ true → max view.len (view.end + 4) ≡ length shown
  len_of_blocks met = len_blocks grows view shown held_as met

  pub len_of_all : view.closed ≡ false → (now : List ℕ → Type 0) (result : Result ℕ JournalFault)
      → ((file : List ℕ) → grows view.file file → Grown now file (λ later. IfOk result (λ len. len ≡ length later))) → IfOk result (λ len. len ≡ length shown)
  len_of_all final now result call = let here = held_as in len_whole grows view shown here final now result (call here.file here.now)

  pub reads_of_all : view.closed ≡ false → (now : List ℕ → Type 0) (result : Result ℕ JournalFault) (at : ℕ) (into : List ℕ)
      → ((file : List ℕ) → grows view.file file → Grown now file (λ later. IfOk result (λ count. ReadsAt count at later into))) → IfOk result (λ count. ReadsAt count at shown into)
  reads_of_all final now result at into call = let here = held_as in reads_whole grows view shown here now result at into final (call here.file here.now)

  pub reads_of_blocks : view.closed ≡ true → (now : List ℕ → Type 0) (result : Result ℕ JournalFault) (at : ℕ) (into : List ℕ)
      → ReadsBlocks (grows view.file) now view.end view.len at into result → IfOk result (λ count. ReadsAt count at shown into)
  reads_of_blocks met now result at into call = let here = held_as in reads_blocks grows view shown here now result at into met (call here.file here.now)
