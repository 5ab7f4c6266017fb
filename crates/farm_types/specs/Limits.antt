-- The limits: each number that words, commands, rows, farms, requests and files are held to stands here, once, by name.
use Rattle.std.specs.Prelude.{ℕ, ◌&&◌, Bool, nat_le, List, length}

-- ---- words, in bytes

abbrev pub longest_name : ℕ
longest_name = 48

-- the key of a kept reply
abbrev pub longest_key : ℕ
longest_key = 64

-- what stands before a tag's '=', and what stands behind it
abbrev pub longest_tag_key : ℕ
longest_tag_key = 32

abbrev pub longest_tag_value : ℕ
longest_tag_value = 64

abbrev pub most_tags : ℕ
most_tags = 16

-- the text that a job carries
abbrev pub longest_text : ℕ
longest_text = 65536

-- ---- commands

abbrev pub highest_priority : ℕ
highest_priority = 100

-- a check's frequency, in hours or in jobs
abbrev pub longest_every : ℕ
longest_every = 10000

-- the wants of a submission, so the members of a group
abbrev pub most_wants : ℕ
most_wants = 4

-- the numbers of commands, as kept replies name them
abbrev pub last_kind : ℕ
last_kind = 14

-- ---- the farm

abbrev pub most_types : ℕ
most_types = 64

abbrev pub most_boards : ℕ
most_boards = 256

abbrev pub most_boards_of_type : ℕ
most_boards_of_type = 64

abbrev pub most_jobs : ℕ
most_jobs = 100000

abbrev pub most_reservations : ℕ
most_reservations = 100000

abbrev pub most_replies : ℕ
most_replies = 300000

-- a moment, in seconds since 1970
abbrev pub last_moment : ℕ
last_moment = 250000000000

-- the accepted commands
abbrev pub most_commands : ℕ
most_commands = 9000000000000000000

-- the numbers of jobs and reservations are below it
abbrev pub numbers_end : ℕ
numbers_end = 1000000000

-- the jobs since a board's last check are counted up to it
abbrev pub most_jobs_since : ℕ
most_jobs_since = 1000000

-- how long a reservation lives without a refresh, in seconds
abbrev pub lease : ℕ
lease = 60

-- a number that a store keeps: below 2^63, and a round number
abbrev pub largest_stored : ℕ
largest_stored = 9000000000000000000

-- ---- requests and files, in bytes

abbrev pub longest_head : ℕ
longest_head = 8192

-- the fields of a head
abbrev pub most_fields : ℕ
most_fields = 64

abbrev pub longest_body : ℕ
longest_body = 65536

-- the calls of a reader for one request
abbrev pub most_reads : ℕ
most_reads = 80000

abbrev pub longest_job_file : ℕ
longest_job_file = 65536

abbrev pub longest_lab_file : ℕ
longest_lab_file = 1048576

-- ---- what keeps a limit by itself

abbrev pub is_priority : ℕ → Bool
is_priority p = nat_le p highest_priority

-- a check's frequency is at least 1
abbrev pub is_every : ℕ → Bool
is_every n = nat_le 1 n && nat_le n longest_every

-- a submission has a want
abbrev pub are_few_wants : {X : Type 0} → List X → Bool
are_few_wants wants = nat_le 1 (length wants) && nat_le (length wants) most_wants
