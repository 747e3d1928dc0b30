-- The numbers of the rules, and the number and place of an answer.
pub mod Numbers
