pub mod ByCursor
