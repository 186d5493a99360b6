-- SPDX-License-Identifier: MPL-2.0
pub mod Words
pub mod Constants
pub mod Compression
pub mod Ring
