pub mod Cache
