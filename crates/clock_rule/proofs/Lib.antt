pub mod FormMeaning
pub mod Choice
pub mod Pair
pub mod Reading
