-- What bare numbers of counters and places stand for.
pub mod Numbers
