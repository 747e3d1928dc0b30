-- What a program in C finds in the words of an answer.
pub mod Words
