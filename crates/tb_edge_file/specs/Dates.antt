-- Moments as dates of the calendar, in UTC.
use Rattle.std.specs.Prelude.{ℕ, ◌≡◌, ◌+◌, ◌-◌, ◌*◌, ◌/◌, ◌%◌, nat_eq, if◌then◌else◌, List, [], ◌∷◌, ◌++◌, codes, refl}
use Rattle.std.specs.Fmt.{decimal, digits}
use Rattle.tb_edge_file.specs.declared.dates.Date.{Date}

-- the second of a moment in nanoseconds since 1970. Its day is counted from 1 March of the year 0 on: a leap day is the last of its year, and 400
-- years, an era, are 146,097 days. The months from March on have 31, 30, 31, 30, 31 days, and so on: the first m have (153 m + 2) / 5
unfoldable pub date_of : ℕ → Date
date_of time =
    let day = time / 86400000000000 + 719468 in
    let of_era = day % 146097 in
    let year = (of_era - of_era / 1460 + of_era / 36524 - of_era / 146096) / 365 in
    let of_year = of_era - (365 * year + year / 4 - year / 100) in
    let month = (5 * of_year + 2) / 153 in
    let second = time / 1000000000 % 86400 in
    record {
      year = year + day / 146097 * 400 + month / 10;
      month = (month + 2) % 12 + 1;
      day = of_year - (153 * month + 2) / 5 + 1;
      hour = second / 3600;
      minute = second / 60 % 60;
      second = second % 60;
    }

-- a number below 100
abbrev pub two_digits : ℕ → List ℕ
two_digits n = decimal (n / 10) ++ decimal (n % 10)

abbrev pub date_text : Date → List ℕ
date_text d =
    decimal d.year
    ++ (codes "-" ++ (two_digits d.month
    ++ (codes "-" ++ (two_digits d.day
    ++ (codes "T" ++ (two_digits d.hour
    ++ (codes ":" ++ (two_digits d.minute
    ++ (codes ":" ++ (two_digits d.second ++ codes "Z"))))))))))

-- the time of a last entry; 0 if there is no entry
abbrev pub moment_text : ℕ → List ℕ
moment_text time = if nat_eq time 0 then codes "none" else date_text (date_of time)

-- rows

pub the_first_second : moment_text 1 ≡ codes "1970-01-01T00:00:00Z"
unfolding digits date_of
the_first_second = refl

pub a_leap_day : moment_text 951826154999999999 ≡ codes "2000-02-29T12:09:14Z"
unfolding digits date_of
a_leap_day = refl

pub no_leap_day_in_2100 : moment_text 4107542400000000000 ≡ codes "2100-03-01T00:00:00Z"
unfolding digits date_of
no_leap_day_in_2100 = refl

pub the_last_day_of_a_year : moment_text 1798761599000000000 ≡ codes "2026-12-31T23:59:59Z"
unfolding digits date_of
the_last_day_of_a_year = refl

pub the_last_moment : moment_text 18446744073709551615 ≡ codes "2554-07-21T23:34:33Z"
unfolding digits date_of
the_last_moment = refl
